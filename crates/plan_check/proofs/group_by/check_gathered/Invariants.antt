use Rattle.std.proofs.Common.{is_some}
use Rattle.plan_core.specs.declared.error.PolarsError.TheVariants.{SchemaMismatch}
use Rattle.plan_expr.specs.Exprs.{expr_at}
use Rattle.plan_frame.specs.Exprs.{expr_type}
use Rattle.plan_frame.specs.Grouping.{gathered_expr}
use Rattle.plan_schema.proofs.CheckLemmas.{Left}
use Rattle.plan_check.proofs.group_by.check_gathered.Given as goal

abbrev pub invariant-loop-i : goal.invariant-loop-i
invariant-loop-i l = Left l.node SchemaMismatch l.place (λ e. is_some (expr_type (gathered_expr (expr_at l.ex e.node)) l.schema)) l.aggs l.i
