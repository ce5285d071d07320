use Rattle.std.proofs.Common.{◌≡◌, ◌∙◌, true, sym}
use Rattle.plan_expr.specs.Exprs.{expr_at}
use Rattle.plan_expr.specs.Forms.{has_form}
use Rattle.plan_check_parts.proofs.JoinLemmas.{elementwise_at}
use Rattle.plan_check_parts.proofs.join_form.is_condition_formed.Goals as goal

pub returns-then-has_form : goal.returns-then-has_form
returns-then-has_form c =
    let form : has_form (expr_at c.args.ex.now c.args.expr.now.node) ≡ true = sym c.has_form.ensures ∙ c.if-has_form.true in
    rw form (c.is_elementwise.ensures ∙ elementwise_at c.args.ex.now c.args.expr.now.node c.requires)
