use Rattle.plan_schema.proofs.CheckLemmas.{NewLeft}
use Rattle.plan_schema.proofs.names.check_names_new.Given as goal

abbrev pub invariant-loop-i : goal.invariant-loop-i
invariant-loop-i l = NewLeft l.node l.place l.names l.before l.i
