use Rattle.plan_core.specs.declared.data_type.DataType.TheVariants.{Boolean}
use Rattle.plan_core.specs.declared.error.PolarsError.TheVariants.{SchemaMismatch}
use Rattle.plan_expr.specs.Exprs.{expr_at}
use Rattle.plan_frame.specs.Exprs.{expr_type, is_type}
use Rattle.plan_schema.proofs.CheckLemmas.{Left}
use Rattle.plan_check_parts.proofs.join_types.check_condition_types.Given as goal

abbrev pub invariant-loop-i : goal.invariant-loop-i
invariant-loop-i l = Left l.node SchemaMismatch l.place (λ e. is_type (expr_type (expr_at l.ex e.node) l.columns) Boolean) l.exprs l.i
