use Rattle.plan_core.specs.declared.error.PolarsError.TheVariants.{InvalidOperation}
use Rattle.plan_expr.specs.Exprs.{expr_at}
use Rattle.plan_expr.specs.Forms.{has_form}
use Rattle.plan_schema.proofs.CheckLemmas.{Left}
use Rattle.plan_check_parts.proofs.exprs.check_forms.Given as goal

abbrev pub invariant-loop-i : goal.invariant-loop-i
invariant-loop-i l = Left l.node InvalidOperation 1 (λ e. has_form (expr_at l.ex e.node)) l.exprs l.i
