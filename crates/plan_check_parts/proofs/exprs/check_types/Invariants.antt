use Rattle.std.proofs.Common.{is_some}
use Rattle.plan_core.specs.declared.error.PolarsError.TheVariants.{SchemaMismatch}
use Rattle.plan_expr.specs.Exprs.{expr_at}
use Rattle.plan_frame.specs.Exprs.{expr_type}
use Rattle.plan_schema.proofs.CheckLemmas.{Left}
use Rattle.plan_check_parts.proofs.exprs.check_types.Given as goal

abbrev pub invariant-loop-i : goal.invariant-loop-i
invariant-loop-i l = Left l.node SchemaMismatch 1 (λ e. is_some (expr_type (expr_at l.ex e.node) l.schema)) l.exprs l.i
