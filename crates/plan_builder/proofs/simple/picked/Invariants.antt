use Rattle.plan_builder.proofs.PickLemmas.{Picking}
use Rattle.plan_builder.proofs.simple.picked.Given as goal

abbrev pub invariant-loop-i : goal.invariant-loop-i
invariant-loop-i l = Picking l.schema l.names l.columns l.i
