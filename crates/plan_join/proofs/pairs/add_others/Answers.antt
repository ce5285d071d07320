use Rattle.std.proofs.Common.{◌≡◌, ◌∙◌, ◌++◌, Bool, true, false, not, List, ℕ, ap, ap₂, sym, append-nil, map, length, get_or, Some, None, ◌∷◌, [], arith}
use Rattle.std.proofs.lemmas.List.{append_assoc}
use Rattle.std.proofs.lemmas.List.FromFn.{get_or-map-range_with_len, length-map-range_with_len}
use Rattle.plan_join.specs.Pairs.{passing}
use Rattle.std.specs.List.{range_with_len}
use Rattle.plan_join.specs.declared.pairs.RowPair.{RowPair}
use Rattle.plan_join.specs.Given.{as_pair, gives_alone, is_met}
use Rattle.plan_join.proofs.PlaceLemmas.{passing-less, passing-more, passing-none}
use Rattle.plan_join.proofs.pairs.add_others.Goals.{then-gives_alone+in_ok-push, else-gives_alone}
use Rattle.plan_join.proofs.pairs.add_others.Goals as goal

neither : (p : Bool → Bool) → p false ≡ false → p true ≡ false → (t : Bool) → p t ≡ false
neither p e f true = f
neither p e f false = e

pub returns-then-not-gives_alone-2 : goal.returns-then-not-gives_alone-2
returns-then-not-gives_alone-2 c =
    let m = c.args.matches.now in
    let b = c.args.by_right in
    let how = c.args.how in
    let never = neither (gives_alone (not b) how) (sym c.gives_alone.ensures ∙ c.if-not-gives_alone.true) (sym c.gives_alone-then-not-gives_alone.ensures ∙ c.if-not-gives_alone-2.true) in
    sym (append-nil c.args.pairs.now) ∙ ap (λ (l : List RowPair). c.args.pairs.now ++ l)
    (sym (ap (map (λ j. as_pair b None (Some j))) (passing-none (λ j. gives_alone (not b) how (is_met m (length m.numbers) j)) (range_with_len 0 m.others) (λ j. never (is_met m (length m.numbers) j)))))

pub loop-other-preserved : goal.loop-other-preserved
loop-other-preserved c =
    let m = c.args.matches.now in
    let b = c.args.by_right in
    let n = c.loop-other.other in
    let test = λ (j : ℕ). gives_alone (not b) c.args.how (is_met m (length m.numbers) j) in
    let f = λ (j : ℕ). as_pair b None (Some j) in
    let marks = c.deref-is_met-items.ensures.value ∙ c.in_ok-met.ensures in
    let long = ap length marks ∙ length-map-range_with_len (is_met m (length m.numbers)) 0 m.others in
    let own : c.gives_alone-in-loop-other.result ≡ test n =
    c.gives_alone-in-loop-other.ensures ∙ ap (gives_alone (not b) c.args.how) (ap (λ (bs : List Bool). get_or bs n false) marks ∙ get_or-map-range_with_len (is_met m (length m.numbers)) 0 m.others n n false (omega (arith, c.loop-other-test.true, long)) (omega arith)) in
    elim c.if-gives_alone.branch [
      | then-gives_alone+in_ok-push w ↦ w.pairs-is ∙ w.in_ok-push.ensures.pushed ∙ ap₂ (λ (ps : List RowPair) (p : RowPair). ps ++ p ∷ []) c.loop-other.invariant w.pair.ensures
          ∙ append_assoc c.args.pairs.now (map f (passing test n)) (f n ∷ []) ∙ ap (λ (ps : List RowPair). c.args.pairs.now ++ ps) (sym (passing-more f test n (sym own ∙ w.if-gives_alone.true)))
      | else-gives_alone w ↦ w.pairs-is ∙ c.loop-other.invariant ∙ ap (λ (ps : List RowPair). c.args.pairs.now ++ ps) (sym (passing-less f test n (sym own ∙ w.if-gives_alone.false)))
    ]

pub returns : goal.returns
returns c =
    let m = c.args.matches.now in
    let marks = c.deref-is_met-items.ensures.value ∙ c.in_ok-met.ensures in
    let long = ap length marks ∙ length-map-range_with_len (is_met m (length m.numbers)) 0 m.others in
    let rows : c.loop-other.other ≡ m.others = omega (arith, c.loop-other-test.false, c.loop-other.auto.other-end, long) in
    c.loop-other.invariant ∙ ap (λ (n : ℕ). c.args.pairs.now ++ map (λ j. as_pair c.args.by_right None (Some j)) (passing (λ j. gives_alone (not c.args.by_right) c.args.how (is_met m (length m.numbers) j)) n)) rows
