use Rattle.std.proofs.Common.{◌∙◌, ◌++◌, ◌∷◌, [], List, ℕ, map, ap, sym}
use Rattle.std.proofs.lemmas.List.{map-append}
use Rattle.std.specs.List.{range_with_len}
use Rattle.plan_join.proofs.PlaceLemmas.{range-next}
use Rattle.plan_join.specs.declared.pairs.RowPair.{RowPair}
use Rattle.plan_join_eval.specs.Reads.{all_beside, beside}
use Rattle.plan_join_eval.proofs.worked.pairs_beside.Goals as goal

pub loop-other-preserved : goal.loop-other-preserved
loop-other-preserved c =
    let n = c.loop-other.other in
    let make = beside c.args.by_right c.args.row in
    c.in_ok-push.ensures.pushed
    ∙ ap (λ (ps : List RowPair). ps ++ c.beside.result ∷ []) c.loop-other.invariant
    ∙ ap (λ (p : RowPair). all_beside c.args.by_right c.args.row n ++ p ∷ []) c.beside.ensures
    ∙ sym (ap (λ (ks : List ℕ). map make ks) (range-next n) ∙ map-append make (range_with_len 0 n) (n ∷ []))
