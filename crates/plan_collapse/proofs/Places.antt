-- Expressions that stand in the place of others.
use Rattle.std.proofs.Common.{◌≡◌, ◌<◌, ◌≤◌, ◌⊎◌, ℕ, List, get_or, ◌++◌, ◌+◌, length, inl, inr, sym, ap, ◌∙◌, arith, length-append, subst}
use Rattle.std.specs.List.Sorted.{IsPermutation}
use Rattle.std.proofs.lemmas.Option.{slice_get-get_or}
use Rattle.plan_core.specs.declared.arena.Node.{Node}
use Rattle.plan_tree.specs.Rose.{join}
use Rattle.plan_tree.specs.Stands.{Trees, Reaches, Apart, StandsOnce}
use Rattle.plan_tree.proofs.Numbers.{Reaches-within}
use Rattle.plan_tree.proofs.Frames.{join-left, join-right, Reaches-join}
use Rattle.plan_tree.proofs.Roots.{StandsOnce-shuffled}
use Rattle.plan_tree.proofs.TreeLemmas.{StandsOnce-nth, nth}
use Rattle.plan_tree.proofs.SplitLemmas.{StandsOnce-split, StandsOnce-join}
use Rattle.plan_expr.specs.declared.aexpr.AExpr.{AExpr}
use Rattle.plan_expr.specs.Operands.{IsExpr, expr_shape}
use Rattle.plan_pruned.specs.Renamed.{IsLonger}
use Rattle.plan_prune_parts.specs.Left.{StandFor}
use Rattle.plan_prune_parts.specs.Places.{StandExprs, TakePlace}
use Rattle.plan_prune_parts.proofs.LongerLemmas.{longer_same, trees_longer}

-- what stands for numbers, and only reaches what these did and new entries, takes their place
pub place_for : (ex grown : List AExpr) (new old : List Node) → IsLonger ex grown → StandFor ex grown new old → TakePlace ex grown new old
place_for ex grown new old longer x =
    let long : length grown ≡ length ex + length longer.0 = ap length longer.1 ∙ length-append ex longer.0 in
    record { grows = omega (arith, long); stand = among }
  where
    among : (before after : List Node) → StandFor ex grown (before ++ (new ++ after)) (before ++ (old ++ after))
    among before after f h =
        let s = StandsOnce-split expr_shape ex before (old ++ after) f h in
        let r = StandsOnce-split expr_shape ex old after s.right s.second in
        let made = x r.left r.first in
        let first : StandsOnce expr_shape grown before s.left = trees_longer ex grown longer before s.left s.first in
        let last : StandsOnce expr_shape grown after r.right = trees_longer ex grown longer after r.right r.second in
        let behind : (k : ℕ) → Reaches (join r.left r.right) k → Reaches s.right k = λ k u. subst (λ (t : Trees AExpr). Reaches t k) (sym r.is) u in
        let beside : Apart made.0 r.right = λ k u v. elim (made.2 k u) as (λ _. ⊥) [ inl w ↦ r.apart k w v | inr w ↦ (let within = Reaches-within expr_shape ex after r.right k r.second.stands v in omega (arith, w, within)) ] in
        let inner = StandsOnce-join expr_shape grown new after made.0 r.right made.1 last beside in
        -- what is reached behind was reached there, or is new
        let reached : (k : ℕ) → Reaches (join made.0 r.right) k → Reaches s.right k ⊎ (length ex ≤ k) = λ k v. elim (Reaches-join expr_shape made.0 r.right k v) as (λ _. Reaches s.right k ⊎ (length ex ≤ k)) [
          | inl w ↦ elim (made.2 k w) as (λ _. Reaches s.right k ⊎ (length ex ≤ k)) [ inl y ↦ inl (behind k (join-left expr_shape r.left r.right k y)) | inr y ↦ inr y ]
          | inr w ↦ inl (behind k (join-right expr_shape r.left r.right k w))
        ] in
        let apart : Apart s.left (join made.0 r.right) = λ k u v. elim (reached k v) as (λ _. ⊥) [ inl w ↦ s.apart k u w | inr w ↦ (let within = Reaches-within expr_shape ex before s.left k s.first.stands u in omega (arith, w, within)) ] in
        let whole : (k : ℕ) → Reaches (join s.left s.right) k → Reaches f k = λ k u. subst (λ (t : Trees AExpr). Reaches t k) (sym s.is) u in (
          join s.left (join made.0 r.right),
          StandsOnce-join expr_shape grown before (new ++ after) s.left (join made.0 r.right) first inner apart,
          λ k u. elim (Reaches-join expr_shape s.left (join made.0 r.right) k u) as (λ _. Reaches f k ⊎ (length ex ≤ k)) [
            | inl w ↦ inl (whole k (join-left expr_shape s.left s.right k w))
            | inr w ↦ elim (reached k w) as (λ _. Reaches f k ⊎ (length ex ≤ k)) [ inl y ↦ inl (whole k (join-right expr_shape s.left s.right k y)) | inr y ↦ inr y ]
          ],
        )

-- numbers in another order
pub place_shuffled : (ex : List AExpr) (new old : List Node) → IsPermutation old new → TakePlace ex ex new old
place_shuffled ex new old h = place_for ex ex new old (longer_same ex) for
  where
    for : StandFor ex ex new old
    for f s =
        let a = StandsOnce-shuffled expr_shape ex old new h f s in
        (a.0, a.1, λ k r. inl (a.2 k r))

-- one of numbers over which expressions stand
pub one_stands : (ex : List AExpr) (ns : List Node) (i : ℕ) (d : Node) → i < length ns → StandExprs ex ns → IsExpr ex (get_or ns i d)
one_stands ex ns i d lt h = (nth expr_shape h.0 i, StandsOnce-nth expr_shape ex ns h.0 i (get_or ns i d) h.1 (slice_get-get_or ns i d lt))
