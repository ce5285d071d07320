use Rattle.std.proofs.Common.{◌≡◌, ◌∙◌, ◌++◌, List, ap, ap₂, sym, subst, arith, ℕ, Bool, length}
use Rattle.std.specs.List.{flat_map, range_with_len}
use Rattle.plan_join.specs.declared.pairs.RowPair.{RowPair}
use Rattle.plan_join.specs.Given.{all_given, others_given, row_given}
use Rattle.plan_join.specs.Orders.{own_order, ArePicked}
use Rattle.plan_join.specs.Rows.{matches_of}
use Rattle.plan_join.proofs.PlaceLemmas.{flat-next}
use Rattle.plan_join.proofs.OrderLemmas.{given-picked}
use Rattle.plan_join.proofs.pairs.row_pairs.Goals as goal

pub loop-row-preserved : goal.loop-row-preserved
loop-row-preserved c =
    let m = c.args.matches.now in
    let b = c.goes_right-by_right.result in
    c.in_ok-add_row.ensures
    ∙ ap₂ (λ (ps : List RowPair) (js : List ℕ). ps ++ row_given b c.args.how c.loop-row.row js) c.loop-row.invariant c.of.ensures
    ∙ sym (flat-next (λ i. row_given b c.args.how i (matches_of m i)) c.loop-row.row)

pub returns : goal.returns
returns c test h k are =
    let m = c.args.matches.now in
    let how = c.args.how in
    let order = c.args.order in
    let b = c.goes_right-by_right.result in
    let rows : c.loop-row.row ≡ length m.numbers = omega (arith, c.loop-row-test.false, c.loop-row.auto.row-end, c.len-row-end.ensures) in
    let all : c.add_others.new.pairs ≡ all_given b how m =
    c.in_ok-add_others.ensures ∙ ap (λ (ps : List RowPair). ps ++ others_given b how m) (c.loop-row.invariant ∙ ap (λ (n : ℕ). flat_map (λ i. row_given b how i (matches_of m i)) (range_with_len 0 n)) rows) in
    subst (ArePicked how (own_order order) test h k) (sym (all ∙ ap (λ (g : Bool). all_given g how m) c.goes_right-by_right.ensures)) (given-picked how order test h k m are)
