use Rattle.plan_core.specs.declared.error.PolarsError.TheVariants.{SchemaFieldNotFound}
use Rattle.plan_expr.specs.Exprs.{expr_at}
use Rattle.plan_expr.specs.Leaves.{leaves}
use Rattle.plan_frame.specs.Exprs.{all_known}
use Rattle.plan_schema.proofs.CheckLemmas.{Left}
use Rattle.plan_check_parts.proofs.exprs.check_leaves_from.Given as goal

abbrev pub invariant-loop-i : goal.invariant-loop-i
invariant-loop-i l = Left l.node SchemaFieldNotFound l.place (λ e. all_known (leaves (expr_at l.ex e.node)) l.schema) l.exprs l.i
