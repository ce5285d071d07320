use Rattle.std.proofs.Common.{map}
use Rattle.plan_expr.specs.Naming.{name_of}
use Rattle.plan_schema.proofs.CheckLemmas.{NewLeft}
use Rattle.plan_check_parts.proofs.exprs.check_outputs.Given as goal

abbrev pub invariant-loop-i : goal.invariant-loop-i
invariant-loop-i l = NewLeft l.node 1 (map (λ e. name_of e.output_name) l.exprs) l.before l.i
