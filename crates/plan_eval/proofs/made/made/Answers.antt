use Rattle.plan_frame.proofs.ScalarExprs.{stands_here}
use Rattle.plan_value.specs.Shown.{columns_shown, frame_of}
use Rattle.plan_table.specs.Tables.{types_of}
use Rattle.plan_eval.proofs.ColumnLemmas.{made-next, stored-next}
use Rattle.plan_eval.proofs.made.made.Goals as goal

pub made_column-requires-clause-stands : goal.made_column-requires-clause-stands
made_column-requires-clause-stands c = stands_here c.args.ex.now c.args.exprs.now c.loop-expr.expr-index c.expr-item.result c.requires.stand c.loop-expr-test.true c.expr-item.is

pub loop-expr-preserved : goal.loop-expr-preserved
loop-expr-preserved c =
    let d = c.in_ok-made_column.field-0 in
    rw c.in_ok-with_column.ensures.after (
      made-next c.args.ex.now c.args.height (frame_of c.args.table.now) c.args.schema.now c.args.exprs.now c.loop-expr.expr-index c.expr-item.result c.loop-expr-test.true c.expr-item.is d (columns_shown c.args.base) c.loop-expr.columns c.in_ok-made_column.ensures.shown c.loop-expr.invariant.0,
      stored-next c.args.ex.now c.args.height (frame_of c.args.table.now) c.args.schema.now c.args.exprs.now c.loop-expr.expr-index c.expr-item.result c.loop-expr-test.true c.expr-item.is d (types_of c.args.base) c.loop-expr.columns c.in_ok-made_column.ensures.typed c.loop-expr.invariant.1,
    )
