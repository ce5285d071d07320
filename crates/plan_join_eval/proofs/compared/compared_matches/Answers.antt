use Rattle.std.proofs.lemmas.Result.{IfOk-weaker}
use Rattle.plan_value.specs.Cells.{cells_of}
use Rattle.plan_value.specs.Shown.{frame_of}
use Rattle.plan_join_eval.specs.Compared.{kind_test}
use Rattle.plan_join_eval.proofs.CompareLemmas.{lists-joined}
use Rattle.plan_join_eval.proofs.compared.compared_matches.Goals as goal

pub returns : goal.returns
returns c =
    let left = c.args.left.now in
    let right = c.args.right.now in
    let test = kind_test c.args.ex.now c.args.args.now c.args.told.now (cells_of left.keys.now) (cells_of right.keys.now) (frame_of left.table.now) (frame_of right.table.now) in
    IfOk-weaker c.own_matches.result _ _
    (λ m are. lists-joined c.args.by_right test left.table.now.height right.table.now.height m c.of_side-height.result c.of_side-others.result c.in_ok-lists.lists.items c.of_side-height.ensures c.of_side-others.ensures c.in_ok-lists.ensures are)
    c.own_matches.ensures
