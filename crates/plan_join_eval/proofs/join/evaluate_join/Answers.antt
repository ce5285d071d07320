use Rattle.std.proofs.Common.{◌≡◌, ◌∙◌, List, Bool, ap, subst}
use Rattle.plan_expr.specs.Exprs.{all_named_at}
use Rattle.plan_frame.specs.Meaning.{Cell}
use Rattle.plan_frame.specs.Orders.{key_cells}
use Rattle.std.proofs.lemmas.Result.{IfOk-weaker}
use Rattle.plan_join.specs.Naming.{key_columns}
use Rattle.plan_join.specs.Told.{told_at}
use Rattle.plan_join.specs.Joined.{joined}
use Rattle.plan_join.specs.Matching.{Joins}
use Rattle.plan_join.specs.declared.pairs.RowPair.{RowPair}
use Rattle.plan_join.specs.Rows.{goes_right, AreJoined}
use Rattle.plan_table.specs.declared.table.Table.{Table}
use Rattle.plan_value.specs.Cells.{cells_of}
use Rattle.plan_value.specs.Shown.{frame_of}
use Rattle.plan_join.specs.OwnOrders.{own_told}
use Rattle.plan_join.proofs.OwnJoins.{own_joins}
use Rattle.plan_join_eval.specs.Compared.{option_test}
use Rattle.plan_join_eval.proofs.JoinLemmas.{picked-joins, within}
use Rattle.plan_join_eval.proofs.join.evaluate_join.Goals as goal

pub joined_table-requires-clause-left_keys : goal.joined_table-requires-clause-left_keys
joined_table-requires-clause-left_keys c = within c.args.ex.now c.args.left_on.now c.requires.left_keys

pub joined_table-requires-clause-right_keys : goal.joined_table-requires-clause-right_keys
joined_table-requires-clause-right_keys c = within c.args.ex.now c.args.right_on.now c.requires.right_keys

pub returns-clause-choice : goal.returns-clause-choice
returns-clause-choice c =
    let ex = c.args.ex.now in
    let o = c.args.options.now in
    let left_on = c.args.left_on.now in
    let right_on = c.args.right_on.now in
    let f = frame_of c.args.left.now in
    let g = frame_of c.args.right.now in
    let h = f.height in
    let k = g.height in
    let lc : cells_of c.as_slice.result.now ≡ key_cells (all_named_at ex left_on) f = ap cells_of c.as_slice.ensures ∙ c.in_ok-left_keys.ensures in
    let rc : cells_of c.as_slice-2.result.now ≡ key_cells (all_named_at ex right_on) g = ap cells_of c.as_slice-2.ensures ∙ c.in_ok-right_keys.ensures in
    let test = option_test ex o.args o.options (key_cells (all_named_at ex left_on) f) (key_cells (all_named_at ex right_on) g) f g in
    let are : AreJoined (goes_right o.args.how o.args.maintain_order) test h k c.in_ok-matches.matches =
    subst (λ (b : Bool). AreJoined b test h k c.in_ok-matches.matches) c.goes_right-by_right.ensures
    (subst (λ (cs : List Cell). AreJoined c.goes_right-by_right.result (option_test ex o.args o.options cs (key_cells (all_named_at ex right_on) g) f g) h k c.in_ok-matches.matches) lc
    (subst (λ (ds : List Cell). AreJoined c.goes_right-by_right.result (option_test ex o.args o.options (cells_of c.as_slice.result.now) ds f g) h k c.in_ok-matches.matches) rc c.in_ok-matches.ensures)) in
    let ps = c.in_ok-pairs.pairs in
    let joins = joined o.args (key_columns ex left_on) (key_columns ex right_on) in
    IfOk-weaker c.joined_table.result (λ (t : Table). frame_of t ≡ joins c.as_slice-3.result.now f g) (λ (t : Table). Joins (own_told (told_at ex o)) (all_named_at ex left_on) (all_named_at ex right_on) f g (frame_of t))
    (λ (t : Table) is. picked-joins ex o left_on right_on f g (frame_of t) ps c.requires.left_keys c.requires.right_keys (c.in_ok-pairs.ensures test h k are) (is ∙ ap (λ (l : List RowPair). joins l f g) c.as_slice-3.ensures))
    c.joined_table.ensures.frame

pub returns-clause-frame : goal.returns-clause-frame
returns-clause-frame c =
    let told = told_at c.args.ex.now c.args.options.now in
    let left_on = all_named_at c.args.ex.now c.args.left_on.now in
    let right_on = all_named_at c.args.ex.now c.args.right_on.now in
    let f = frame_of c.args.left.now in
    let g = frame_of c.args.right.now in
    IfOk-weaker c.joined_table.result (λ (t : Table). Joins (own_told told) left_on right_on f g (frame_of t)) (λ (t : Table). Joins told left_on right_on f g (frame_of t))
    (λ (t : Table). own_joins told left_on right_on f g (frame_of t)) (returns-clause-choice c)
