use Rattle.std.proofs.Common.{◌≡◌, ◌∙◌, ap, sym, All, List, subst}
use Rattle.plan_expr.specs.declared.expr_ir.ExprIR.{ExprIR}
use Rattle.plan_expr.specs.Operands.{IsExpr}
use Rattle.plan_prune_parts.specs.Kept.{asked_exprs}
use Rattle.plan_prune_parts.proofs.KeptLemmas.{asked_stand}
use Rattle.plan_prune_steps.proofs.select.keep.Goals as goal

pub add_many-requires-clause-kept : goal.add_many-requires-clause-kept
add_many-requires-clause-kept c =
    let is : c.in_ok-kept.kept ≡ asked_exprs c.args.asked.now c.args.exprs = c.in_ok-kept.ensures ∙ ap (asked_exprs c.args.asked.now) c.as_slice.ensures in
    subst (λ (l : List ExprIR). All (λ (e : ExprIR). IsExpr c.args.ex.now e.node) l) (sym is) (asked_stand c.args.ex.now (λ (e : ExprIR). IsExpr c.args.ex.now e.node) c.args.asked.now c.args.exprs c.requires)

pub add_many-requires-clause-exprs : goal.add_many-requires-clause-exprs
add_many-requires-clause-exprs c = subst (λ (l : List ExprIR). All (λ (e : ExprIR). IsExpr c.args.ex.now e.node) l) (sym c.as_slice-2.ensures) c.requires
