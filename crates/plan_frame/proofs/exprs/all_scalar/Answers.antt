use Rattle.std.proofs.Common.{◌∙◌, sym}
use Rattle.plan_frame.proofs.ScalarExprs.{stands_here, item_here, scalars-next, scalars-bad}
use Rattle.plan_frame.proofs.exprs.all_scalar.Goals as goal

pub is_scalar-requires : goal.is_scalar-requires
is_scalar-requires c = stands_here c.args.ex.now c.args.exprs.now c.loop-expr.expr-index c.expr-item.result c.requires c.loop-expr-test.true c.expr-item.is

pub returns-then-not-is_scalar : goal.returns-then-not-is_scalar
returns-then-not-is_scalar c =
    scalars-bad c.args.ex.now c.args.exprs.now c.loop-expr.expr-index c.expr-item.result (item_here c.args.exprs.now c.loop-expr.expr-index c.expr-item.result c.loop-expr-test.true c.expr-item.is) (sym c.is_scalar.ensures ∙ c.if-not-is_scalar.true)

pub loop-expr-preserved : goal.loop-expr-preserved
loop-expr-preserved c =
    scalars-next c.args.ex.now c.args.exprs.now c.loop-expr.expr-index c.expr-item.result (item_here c.args.exprs.now c.loop-expr.expr-index c.expr-item.result c.loop-expr-test.true c.expr-item.is) c.loop-expr.invariant (sym c.is_scalar.ensures ∙ c.if-not-is_scalar.false)
