use Rattle.std.proofs.Common.{◌∙◌, ◌++◌, List, ap, sym}
use Rattle.plan_frame.specs.Frames.{column_or}
use Rattle.plan_frame.specs.Values.{Value}
use Rattle.plan_value.specs.Shown.{frame_of}
use Rattle.plan_eval.proofs.StackLemmas.{stacked-next}
use Rattle.plan_eval.proofs.stack.stacked_values.Goals as goal

pub loop-table-preserved : goal.loop-table-preserved
loop-table-preserved c =
    c.in_ok-append_column.ensures
    ∙ ap (λ (vs : List Value). vs ++ column_or (frame_of c.table-item.result.now) c.args.name.now) c.loop-table.invariant
    ∙ sym (stacked-next c.args.tables.now c.loop-table.table-index c.table-item.result c.args.name.now c.loop-table-test.true c.table-item.is)
