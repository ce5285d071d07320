use Rattle.plan_value.specs.Cells.{cells_of}
use Rattle.plan_value.specs.Shown.{frame_of}
use Rattle.plan_join_eval.specs.Compared.{kind_test, sided}
use Rattle.plan_join_eval.proofs.CompareLemmas.{lists-next}
use Rattle.plan_join_eval.proofs.unequal.near_lists.Goals as goal

pub loop-row-preserved : goal.loop-row-preserved
loop-row-preserved c =
    let left = c.args.left.now in
    let right = c.args.right.now in
    let test = sided c.args.by_right (kind_test c.args.ex.now c.args.args.now c.args.told.now (cells_of left.keys.now) (cells_of right.keys.now) (frame_of left.table.now) (frame_of right.table.now)) in
    lists-next test c.args.others c.loop-row.row c.loop-row.lists.items _ _ c.loop-row.invariant c.in_ok-push.ensures.items c.in_ok-near_rows.ensures
