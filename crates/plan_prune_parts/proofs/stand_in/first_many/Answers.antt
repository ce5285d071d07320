use Rattle.std.proofs.Common.{◌∙◌, sym}
use Rattle.plan_frame.proofs.ScalarExprs.{stands_here, item_here}
use Rattle.plan_prune_parts.proofs.ExprWalks.{many-next, many-found}
use Rattle.plan_prune_parts.proofs.stand_in.first_many.Goals as goal

pub is_scalar-requires : goal.is_scalar-requires
is_scalar-requires c = stands_here c.args.ex.now c.args.exprs.now c.loop-expr.expr-index c.expr-item.result c.requires c.loop-expr-test.true c.expr-item.is

pub loop-expr-preserved : goal.loop-expr-preserved
loop-expr-preserved c = many-next c.args.ex.now c.args.exprs.now c.loop-expr.expr-index c.expr-item.result (item_here c.args.exprs.now c.loop-expr.expr-index c.expr-item.result c.loop-expr-test.true c.expr-item.is) c.loop-expr.invariant (sym c.is_scalar.ensures ∙ c.if-not-is_scalar.false)

pub returns-then-not-is_scalar-clause-some : goal.returns-then-not-is_scalar-clause-some
returns-then-not-is_scalar-clause-some c = sym (many-found c.args.ex.now c.args.exprs.now c.loop-expr.expr-index c.expr-item.result (item_here c.args.exprs.now c.loop-expr.expr-index c.expr-item.result c.loop-expr-test.true c.expr-item.is) c.loop-expr.invariant (sym c.is_scalar.ensures ∙ c.if-not-is_scalar.true))
