use Rattle.std.proofs.Common.{◌∙◌, true, false, sym, append-nil}
use Rattle.plan_value.specs.Cells.{cell_of, cells_of}
use Rattle.plan_value.specs.Shown.{frame_of, value_of}
use Rattle.plan_join_eval.specs.Compared.{kind_test, sided}
use Rattle.plan_join_eval.proofs.RunLemmas.{looked-next, passed-next}
use Rattle.plan_join_eval.proofs.unequal.next_row.Goals.{then-branch+in_ok-push, else-branch}
use Rattle.plan_join_eval.proofs.unequal.next_row.Goals as goal

pub returns-then-count-gt0 : goal.returns-then-count-gt0
returns-then-count-gt0 c =
    let left = c.args.left.now in
    let right = c.args.right.now in
    let test = sided c.args.by_right (kind_test c.args.ex.now c.args.args.now c.args.told.now (cells_of left.keys.now) (cells_of right.keys.now) (frame_of left.table.now) (frame_of right.table.now)) c.args.row in
    passed-next test c.args.operator c.args.by_right (value_of c.args.own.now) (cell_of c.args.key.now) c.args.other c.args.others c.passed_over-count.result c.args.rows.now c.requires.before c.if-count-gt0.true (c.passed_over-count.ensures c.args.others c.requires.within c.requires.runs) c.requires.first

pub returns : goal.returns
returns c =
    let left = c.args.left.now in
    let right = c.args.right.now in
    let n = c.args.other in
    let before = c.args.rows.now in
    let test = sided c.args.by_right (kind_test c.args.ex.now c.args.args.now c.args.told.now (cells_of left.keys.now) (cells_of right.keys.now) (frame_of left.table.now) (frame_of right.table.now)) c.args.row in
    elim c.if-branch.branch [
      | then-branch+in_ok-push w ↦ looked-next test n c.args.others true before _ c.requires.before c.requires.within (sym c.in_ok-is_sided_match.ensures ∙ w.if-branch.true) (w.rows-is ∙ w.in_ok-push.ensures.pushed)
      | else-branch w ↦ looked-next test n c.args.others false before _ c.requires.before c.requires.within (sym c.in_ok-is_sided_match.ensures ∙ w.if-branch.false) (w.rows-is ∙ sym (append-nil before))
    ]
