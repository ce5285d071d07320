use Rattle.std.proofs.Common.{◌∙◌, ◌++◌, ◌∷◌, [], List, ℕ, true, false, ap, sym, append-nil}
use Rattle.plan_join.specs.Pairs.{passing}
use Rattle.plan_value.specs.Cells.{cells_of}
use Rattle.plan_value.specs.Shown.{frame_of}
use Rattle.plan_join_eval.specs.Compared.{kind_test, sided}
use Rattle.plan_join_eval.proofs.CompareLemmas.{passing-next}
use Rattle.plan_join_eval.proofs.compared.matching_rows.Goals.{then-branch+in_ok-push, else-branch}
use Rattle.plan_join_eval.proofs.compared.matching_rows.Goals as goal

pub loop-other-preserved : goal.loop-other-preserved
loop-other-preserved c =
    let n = c.loop-other.other in
    let left = c.args.left.now in
    let right = c.args.right.now in
    let test = sided c.args.by_right (kind_test c.args.ex.now c.args.args.now c.args.told.now (cells_of left.keys.now) (cells_of right.keys.now) (frame_of left.table.now) (frame_of right.table.now)) c.args.row in
    elim c.if-branch.branch [
      | then-branch+in_ok-push w ↦ w.rows-is ∙ w.in_ok-push.ensures.pushed ∙ ap (λ (rows : List ℕ). rows ++ n ∷ []) c.loop-other.invariant ∙ sym (passing-next test n true (sym c.in_ok-is_sided_match.ensures ∙ w.if-branch.true))
      | else-branch w ↦ w.rows-is ∙ c.loop-other.invariant ∙ sym (passing-next test n false (sym c.in_ok-is_sided_match.ensures ∙ w.if-branch.false) ∙ append-nil (passing test n))
    ]
