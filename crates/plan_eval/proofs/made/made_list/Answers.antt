use Rattle.plan_frame.proofs.ScalarExprs.{stands_here}
use Rattle.plan_value.specs.Shown.{frame_of}
use Rattle.plan_eval.proofs.ColumnLemmas.{list-next, typed-next}
use Rattle.plan_eval.proofs.made.made_list.Goals as goal

pub made_column-requires-clause-stands : goal.made_column-requires-clause-stands
made_column-requires-clause-stands c = stands_here c.args.ex.now c.args.exprs.now c.loop-expr.expr-index c.expr-item.result c.requires.stand c.loop-expr-test.true c.expr-item.is

pub loop-expr-preserved : goal.loop-expr-preserved
loop-expr-preserved c =
    let d = c.in_ok-made_column.field-0 in
    rw c.in_ok-push.ensures.items (
      list-next c.args.ex.now c.args.height (frame_of c.args.table.now) c.args.schema.now c.args.exprs.now c.loop-expr.expr-index c.expr-item.result c.loop-expr-test.true c.expr-item.is d c.loop-expr.made.items c.in_ok-made_column.ensures.shown c.loop-expr.invariant.0,
      typed-next c.args.ex.now c.args.height (frame_of c.args.table.now) c.args.schema.now c.args.exprs.now c.loop-expr.expr-index c.expr-item.result c.loop-expr-test.true c.expr-item.is d c.loop-expr.made.items c.in_ok-made_column.ensures.typed c.loop-expr.invariant.1,
    )
