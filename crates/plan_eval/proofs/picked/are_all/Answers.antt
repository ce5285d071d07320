use Rattle.std.proofs.Common.{◌≡◌, ◌∙◌, ◌+◌, ◌++◌, ◌∷◌, ◌<◌, [], List, ℕ, get_or, length, ap, ap₂, sym, arith, add-one}
use Rattle.std.specs.List.{range_with_len}
use Rattle.std.proofs.lemmas.List.{take_all, take_more}
use Rattle.plan_value.proofs.PlaceLemmas.{range-more}
use Rattle.plan_eval.proofs.picked.are_all.Goals as goal

pub loop-place-preserved : goal.loop-place-preserved
loop-place-preserved c =
    let rows : List ℕ = c.args.rows.now in
    let i = c.loop-place.place in
    let inv = c.loop-place.invariant in
    let lt : i < length rows = omega (arith, inv.0, c.loop-place-test.true) in
    let here : get_or rows i 0 ≡ 0 + i = omega (arith, c.if-rows-place.false) in (
      inv.0,
      take_more rows i 0 lt
          ∙ ap₂ (λ (l : List ℕ) (k : ℕ). l ++ k ∷ []) inv.1 here
          ∙ sym (ap (range_with_len 0) (add-one i) ∙ range-more 0 i),
    )

pub returns : goal.returns
returns c t =
    let rows : List ℕ = c.args.rows.now in
    let inv = c.loop-place.invariant in
    let end : c.loop-place.place ≡ c.args.height = omega arith in
    sym (take_all c.loop-place.place rows (omega (arith, inv.0, end))) ∙ inv.1 ∙ ap (range_with_len 0) end
