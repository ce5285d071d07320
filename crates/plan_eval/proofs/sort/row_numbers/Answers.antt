use Rattle.std.proofs.Common.{◌≡◌, ◌∙◌, ◌+◌, ◌++◌, ◌∷◌, [], List, ℕ, ap, sym, arith, add-one}
use Rattle.std.specs.List.{range_with_len}
use Rattle.plan_value.proofs.PlaceLemmas.{range-more}
use Rattle.plan_eval.proofs.sort.row_numbers.Goals as goal

pub loop-row-preserved : goal.loop-row-preserved
loop-row-preserved c =
    let row = c.loop-row.row in
    let q : 0 + row ≡ row = omega arith in
    c.in_ok-push.ensures.items
    ∙ ap (λ (l : List ℕ). l ++ row ∷ []) c.loop-row.invariant
    ∙ sym (ap (range_with_len 0) (add-one row) ∙ range-more 0 row ∙ ap (λ (k : ℕ). range_with_len 0 row ++ k ∷ []) q)
