use Rattle.std.proofs.Common.{Bool, Option, sym, subst, true}
use Rattle.std.proofs.lemmas.Result.{IfOk-weaker}
use Rattle.plan_join.specs.declared.options.JoinTypeOptionsIR.{JoinTypeOptionsIR}
use Rattle.plan_join.specs.declared.matches.Matches.{Matches}
use Rattle.plan_join.specs.Rows.{AreJoined, AreMatches}
use Rattle.plan_join.specs.Matching.{keys_match}
use Rattle.plan_value.specs.Cells.{cells_of}
use Rattle.plan_value.specs.Shown.{frame_of}
use Rattle.plan_join_eval.specs.Compared.{option_test}
use Rattle.plan_join_eval.proofs.JoinLemmas.{turned-matches}
use Rattle.plan_join_eval.proofs.join.matches.Goals as goal

pub returns-then-by_right : goal.returns-then-by_right
returns-then-by_right c =
    let left = c.args.left.now in
    let right = c.args.right.now in
    let lc = cells_of left.keys.now in
    let rc = cells_of right.keys.now in
    let f = frame_of left.table.now in
    let g = frame_of right.table.now in
    let args = c.args.options.now.args in
    IfOk-weaker c.equal_matches.result (AreMatches (keys_match args.join_nulls rc lc) right.table.now.height left.table.now.height)
    (AreJoined c.args.by_right (option_test c.args.ex.now args c.args.options.now.options lc rc f g) left.table.now.height right.table.now.height)
    (λ (m : Matches) are. subst (λ (b : Bool). AreJoined b (option_test c.args.ex.now args c.args.options.now.options lc rc f g) left.table.now.height right.table.now.height m) (sym c.if-by_right.true)
    (subst (λ (o : Option JoinTypeOptionsIR). AreJoined true (option_test c.args.ex.now args o lc rc f g) left.table.now.height right.table.now.height m) (sym c.in_default.is)
    (turned-matches args.join_nulls lc rc left.table.now.height right.table.now.height m are)))
    c.equal_matches.ensures
