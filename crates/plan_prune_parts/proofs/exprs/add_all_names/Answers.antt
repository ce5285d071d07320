use Rattle.std.proofs.Common.{◌∙◌, ap, List}
use Rattle.plan_core.specs.Names.{with_names}
use Rattle.plan_expr.specs.Exprs.{expr_at}
use Rattle.plan_expr.specs.Leaves.{Name, leaves}
use Rattle.plan_frame.proofs.ScalarExprs.{stands_here, item_here}
use Rattle.plan_prune_parts.proofs.ExprWalks.{leaves-next}
use Rattle.plan_prune_parts.proofs.exprs.add_all_names.Goals as goal

pub add_names-requires : goal.add_names-requires
add_names-requires c = stands_here c.args.ex.now c.args.exprs.now c.loop-expr.expr-index c.expr-item.result c.requires c.loop-expr-test.true c.expr-item.is

pub loop-expr-preserved : goal.loop-expr-preserved
loop-expr-preserved c =
    c.in_ok-add_names.ensures
    ∙ ap (λ (l : List Name). with_names l (leaves (expr_at c.args.ex.now c.expr-item.result.node))) c.loop-expr.invariant
    ∙ leaves-next c.args.ex.now c.args.names.now c.args.exprs.now c.loop-expr.expr-index c.expr-item.result (item_here c.args.exprs.now c.loop-expr.expr-index c.expr-item.result c.loop-expr-test.true c.expr-item.is)
