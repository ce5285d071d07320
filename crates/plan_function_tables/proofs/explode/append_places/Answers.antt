use Rattle.std.proofs.Common.{◌∙◌, ◌++◌, ◌∷◌, [], ℕ, List, append_assoc, ap, sym}
use Rattle.plan_function_tables.specs.Explode.{row_places}
use Rattle.plan_function_tables.proofs.ExplodeLemmas.{places-next}
use Rattle.plan_function_tables.proofs.explode.append_places.Goals as goal

pub loop-place-preserved : goal.loop-place-preserved
loop-place-preserved c =
    let before = c.args.rows.now.items in
    let row = c.args.row in
    let place = c.loop-place.place in
    c.in_ok-push.ensures.items
    ∙ ap (λ (rows : List (ℕ × ℕ)). rows ++ (row, place) ∷ []) c.loop-place.invariant
    ∙ append_assoc before (row_places row place) ((row, place) ∷ [])
    ∙ ap (λ (rows : List (ℕ × ℕ)). before ++ rows) (sym (places-next row place))
