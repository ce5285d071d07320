use Rattle.std.proofs.Common.{◌≡◌, ◌∙◌, Some, ap, arith}
use Rattle.std.specs.List.{slice_get}
use Rattle.plan_frame.specs.Reshaped.{type_or}
use Rattle.plan_frame.proofs.ScalarExprs.{item_here}
use Rattle.plan_file_tables.proofs.OutputLemmas.{at-next}
use Rattle.plan_file_tables.proofs.output.columns_at.Goals as goal

pub loop-name-preserved : goal.loop-name-preserved
loop-name-preserved c =
    let here : slice_get c.args.names.now c.loop-name.name-index ≡ Some c.name-item.result = item_here c.args.names.now c.loop-name.name-index c.name-item.result (omega arith) c.name-item.is in
    c.in_ok-with_column.ensures.after
    ∙ at-next c.args.file.now c.args.names.now c.loop-name.name-index c.name-item.result c.in_ok-try_clone.field-0 c.type_or-dtype.result c.loop-name.columns c.requires c.loop-name.invariant here c.in_ok-try_clone.ensures (c.type_or-dtype.ensures ∙ ap (type_or c.args.file.now) c.as_str.ensures)
