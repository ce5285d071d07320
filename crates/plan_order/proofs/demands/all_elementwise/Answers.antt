use Rattle.std.proofs.Common.{◌∙◌, sym}
use Rattle.plan_frame.proofs.ScalarExprs.{stands_here, item_here}
use Rattle.plan_check_parts.proofs.JoinLemmas.{elementwise_at}
use Rattle.plan_order.proofs.DemandLemmas.{elementwise_next, elementwise_bad}
use Rattle.plan_order.proofs.demands.all_elementwise.Goals as goal

pub is_elementwise-requires : goal.is_elementwise-requires
is_elementwise-requires c = stands_here c.args.ex.now c.args.exprs.now c.loop-expr.expr-index c.expr-item.result c.requires c.loop-expr-test.true c.expr-item.is

pub returns-then-not-is_elementwise : goal.returns-then-not-is_elementwise
returns-then-not-is_elementwise c =
    elementwise_bad c.args.ex.now c.args.exprs.now c.loop-expr.expr-index c.expr-item.result (item_here c.args.exprs.now c.loop-expr.expr-index c.expr-item.result c.loop-expr-test.true c.expr-item.is)
    (sym (elementwise_at c.args.ex.now c.expr-item.result.node (stands_here c.args.ex.now c.args.exprs.now c.loop-expr.expr-index c.expr-item.result c.requires c.loop-expr-test.true c.expr-item.is)) ∙ sym c.is_elementwise.ensures ∙ c.if-not-is_elementwise.true)

pub loop-expr-preserved : goal.loop-expr-preserved
loop-expr-preserved c =
    elementwise_next c.args.ex.now c.args.exprs.now c.loop-expr.expr-index c.expr-item.result (item_here c.args.exprs.now c.loop-expr.expr-index c.expr-item.result c.loop-expr-test.true c.expr-item.is) c.loop-expr.invariant
    (sym (elementwise_at c.args.ex.now c.expr-item.result.node (stands_here c.args.ex.now c.args.exprs.now c.loop-expr.expr-index c.expr-item.result c.requires c.loop-expr-test.true c.expr-item.is)) ∙ sym c.is_elementwise.ensures ∙ c.if-not-is_elementwise.false)
