use Rattle.std.proofs.Common.{◌∙◌, sym}
use Rattle.plan_expr.specs.Exprs.{expr_at}
use Rattle.plan_expr.proofs.SameTrees.{same_tree_is}
use Rattle.plan_expr.proofs.same.same_expr.Goals as goal

pub returns-clause-same : goal.returns-clause-same
returns-clause-same c =
    let is = same_tree_is (expr_at c.args.ex.now c.args.left) (expr_at c.args.ex.now c.args.right) in
    (λ h. is.0 (sym c.is_same.ensures ∙ h), λ e. c.is_same.ensures ∙ is.1 e)
