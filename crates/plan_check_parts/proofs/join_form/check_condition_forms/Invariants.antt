use Rattle.plan_core.specs.declared.error.PolarsError.TheVariants.{InvalidOperation}
use Rattle.plan_expr.specs.Exprs.{named_at}
use Rattle.plan_meaning.specs.JoinChecks.{is_formed_condition}
use Rattle.plan_schema.proofs.CheckLemmas.{Left}
use Rattle.plan_check_parts.proofs.join_form.check_condition_forms.Given as goal

abbrev pub invariant-loop-i : goal.invariant-loop-i
invariant-loop-i l = Left l.node InvalidOperation l.place (λ e. is_formed_condition (named_at l.ex e)) l.exprs l.i
