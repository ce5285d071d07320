use Rattle.std.proofs.Common.{◌∙◌, ap₂, List}
use Rattle.plan_core.specs.Names.{with_name}
use Rattle.plan_expr.specs.Leaves.{Name}
use Rattle.plan_frame.proofs.ScalarExprs.{item_here}
use Rattle.plan_cluster.proofs.NameLemmas.{names-all, place-next}
use Rattle.plan_cluster.proofs.places.Places.of.Goals as goal

pub loop-expr-preserved : goal.loop-expr-preserved
loop-expr-preserved c =
    c.in_ok-add.ensures
    ∙ ap₂ (λ (names : List Name) (a : Name). with_name names a) c.loop-expr.invariant c.output_name.ensures
    ∙ place-next c.args.exprs.now c.loop-expr.expr-index c.expr-item.result c.requires (item_here c.args.exprs.now c.loop-expr.expr-index c.expr-item.result c.loop-expr-test.true c.expr-item.is)

pub returns : goal.returns
returns c = c.loop-expr.invariant ∙ names-all c.args.exprs.now c.loop-expr.expr-index c.loop-expr-test.false
