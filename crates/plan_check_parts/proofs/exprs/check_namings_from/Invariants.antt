use Rattle.plan_core.specs.declared.error.PolarsError.TheVariants.{SchemaMismatch}
use Rattle.plan_expr.specs.Exprs.{expr_at}
use Rattle.plan_expr.specs.Naming.{naming, may_be_named}
use Rattle.plan_schema.proofs.CheckLemmas.{Left}
use Rattle.plan_check_parts.proofs.exprs.check_namings_from.Given as goal

abbrev pub invariant-loop-i : goal.invariant-loop-i
invariant-loop-i l = Left l.node SchemaMismatch l.place (λ e. may_be_named e.output_name (naming (expr_at l.ex e.node))) l.exprs l.i
