-- Numbers of expressions in the place of others, while their arena grows.
use Rattle.std.proofs.Common.{◌≡◌, ◌≤◌, ◌⊎◌, ℕ, List, [], ◌++◌, length, sym, ap, ◌∙◌, arith, inl, inr, subst, append-nil, append_assoc}
use Rattle.plan_core.specs.declared.arena.Node.{Node}
use Rattle.plan_tree.specs.Rose.{join}
use Rattle.plan_tree.specs.Stands.{Trees, Reaches, Apart}
use Rattle.plan_tree.proofs.Frames.{join-left, join-right, Reaches-join}
use Rattle.plan_tree.proofs.SplitLemmas.{StandsOnce-split, StandsOnce-join}
use Rattle.plan_expr.specs.declared.aexpr.AExpr.{AExpr}
use Rattle.plan_expr.specs.Operands.{expr_shape}
use Rattle.plan_prune_parts.specs.Left.{StandFor}
use Rattle.plan_prune_parts.specs.Places.{StandExprs, TakePlace}

module _ (ex : List AExpr) where
  -- equal lists of numbers
  pub place_same : (ns : List Node) → TakePlace ex ex ns ns
  place_same ns = record { grows = omega arith; stand = λ before after f h. (f, h, λ k r. inl r) }

  pub place_equal : (new old : List Node) → new ≡ old → TakePlace ex ex new old
  place_equal new old e = subst (λ (l : List Node). TakePlace ex ex l old) (sym e) (place_same old)

-- numbers in an arena that grows
module _ (ex grown : List AExpr) where
  moved : (a b c d : List Node) → a ≡ b → c ≡ d → StandFor ex grown a c → StandFor ex grown b d
  moved a b c d e e' x = subst (λ (l : List Node). StandFor ex grown b l) e' (subst (λ (l : List Node). StandFor ex grown l c) e x)

  -- alone
  pub place_alone : (new old : List Node) → TakePlace ex grown new old → StandExprs ex old → StandExprs grown new
  place_alone new old x h =
      let y = moved (new ++ []) new (old ++ []) old (append-nil new) (append-nil old) (x.stand [] []) h.0 h.1 in
      (y.0, y.1)

  -- behind others that stay
  pub place_behind : (ns new old : List Node) → TakePlace ex grown new old → TakePlace ex grown (ns ++ new) (ns ++ old)
  place_behind ns new old x = record {
    grows = x.grows;
    stand = λ before after.
        moved ((before ++ ns) ++ (new ++ after)) (before ++ ((ns ++ new) ++ after)) ((before ++ ns) ++ (old ++ after)) (before ++ ((ns ++ old) ++ after)) (behind before after new) (behind before after old) (x.stand (before ++ ns) after);
  }
    where
      behind : (before after l : List Node) → (before ++ ns) ++ (l ++ after) ≡ before ++ ((ns ++ l) ++ after)
      behind before after l = append_assoc before ns (l ++ after) ∙ ap (λ (m : List Node). before ++ m) (sym (append_assoc ns l after))

  -- before others that stay
  pub place_before : (ns new old : List Node) → TakePlace ex grown new old → TakePlace ex grown (new ++ ns) (old ++ ns)
  place_before ns new old x = record {
    grows = x.grows;
    stand = λ before after.
        moved (before ++ (new ++ (ns ++ after))) (before ++ ((new ++ ns) ++ after)) (before ++ (old ++ (ns ++ after))) (before ++ ((old ++ ns) ++ after)) (behind before after new) (behind before after old) (x.stand before (ns ++ after));
  }
    where
      behind : (before after l : List Node) → before ++ (l ++ (ns ++ after)) ≡ before ++ ((l ++ ns) ++ after)
      behind before after l = ap (λ (m : List Node). before ++ m) (sym (append_assoc l ns after))

-- one change after another
module _ (ex mid grown : List AExpr) where
  pub place_trans : (new between old : List Node) → TakePlace mid grown new between → TakePlace ex mid between old → TakePlace ex grown new old
  place_trans new between old x y =
      let first : length ex ≤ length mid = y.grows in
      let second : length mid ≤ length grown = x.grows in
      record {
        grows = omega arith;
        stand = λ before after f h.
            let u = y.stand before after f h in
            let v = x.stand before after u.0 u.1 in
            (v.0, v.1, λ k r. elim (v.2 k r) as (λ _. Reaches f k ⊎ (length ex ≤ k)) [ inl w ↦ u.2 k w | inr w ↦ inr (omega (arith, w, first)) ]);
      }

  -- of numbers one after the other
  pub place_both : (new old new' old' : List Node) → TakePlace ex mid new old → TakePlace mid grown new' old' → TakePlace ex grown (new ++ new') (old ++ old')
  place_both new old new' old' x y =
      place_trans (new ++ new') (new ++ old') (old ++ old') (place_behind mid grown new new' old' y) (place_before ex mid old' new old x)

module _ (ex : List AExpr) where
  -- numbers left out
  pub place_without : (ns : List Node) → TakePlace ex ex [] ns
  place_without ns = record { grows = omega arith; stand = left_out }
    where
      left_out : (before after : List Node) → StandFor ex ex (before ++ after) (before ++ (ns ++ after))
      left_out before after f h =
          let s = StandsOnce-split expr_shape ex before (ns ++ after) f h in
          let r = StandsOnce-split expr_shape ex ns after s.right s.second in
          let behind : (k : ℕ) → Reaches r.right k → Reaches s.right k = λ k b. subst (λ (t : Trees AExpr). Reaches t k) (sym r.is) (join-right expr_shape r.left r.right k b) in
          let apart : Apart s.left r.right = λ k a b. s.apart k a (behind k b) in
          let within : (k : ℕ) → Reaches (join s.left r.right) k → Reaches f k = λ k a. subst (λ (t : Trees AExpr). Reaches t k) (sym s.is) (elim (Reaches-join expr_shape s.left r.right k a) as (λ _. Reaches (join s.left s.right) k) [ inl u ↦ join-left expr_shape s.left s.right k u | inr v ↦ join-right expr_shape s.left s.right k (behind k v) ]) in
          (join s.left r.right, StandsOnce-join expr_shape ex before after s.left r.right s.first r.second apart, λ k a. inl (within k a))

  -- numbers that change places
  pub place_swapped : (ns ms : List Node) → TakePlace ex ex (ms ++ ns) (ns ++ ms)
  place_swapped ns ms = record { grows = omega arith; stand = turned }
    where
      turned : (before after : List Node) → StandFor ex ex (before ++ ((ms ++ ns) ++ after)) (before ++ ((ns ++ ms) ++ after))
      turned before after f h =
          let s = StandsOnce-split expr_shape ex before ((ns ++ ms) ++ after) f h in
          let r = StandsOnce-split expr_shape ex (ns ++ ms) after s.right s.second in
          let q = StandsOnce-split expr_shape ex ns ms r.left r.first in
          let other : Apart q.right q.left = λ k a b. q.apart k b a in
          let inner = StandsOnce-join expr_shape ex ms ns q.right q.left q.second q.first other in
          let back : (k : ℕ) → Reaches (join q.right q.left) k → Reaches r.left k = λ k a. subst (λ (t : Trees AExpr). Reaches t k) (sym q.is) (elim (Reaches-join expr_shape q.right q.left k a) as (λ _. Reaches (join q.left q.right) k) [ inl u ↦ join-right expr_shape q.left q.right k u | inr v ↦ join-left expr_shape q.left q.right k v ]) in
          let apart : Apart (join q.right q.left) r.right = λ k a b. r.apart k (back k a) b in
          let outer = StandsOnce-join expr_shape ex (ms ++ ns) after (join q.right q.left) r.right inner r.second apart in
          let behind : (k : ℕ) → Reaches (join (join q.right q.left) r.right) k → Reaches s.right k = λ k b. subst (λ (t : Trees AExpr). Reaches t k) (sym r.is) (elim (Reaches-join expr_shape (join q.right q.left) r.right k b) as (λ _. Reaches (join r.left r.right) k) [ inl u ↦ join-left expr_shape r.left r.right k (back k u) | inr v ↦ join-right expr_shape r.left r.right k v ]) in
          let beside : Apart s.left (join (join q.right q.left) r.right) = λ k a b. s.apart k a (behind k b) in
          let within : (k : ℕ) → Reaches (join s.left (join (join q.right q.left) r.right)) k → Reaches f k = λ k a. subst (λ (t : Trees AExpr). Reaches t k) (sym s.is) (elim (Reaches-join expr_shape s.left (join (join q.right q.left) r.right) k a) as (λ _. Reaches (join s.left s.right) k) [ inl u ↦ join-left expr_shape s.left s.right k u | inr v ↦ join-right expr_shape s.left s.right k (behind k v) ]) in (
            join s.left (join (join q.right q.left) r.right),
            StandsOnce-join expr_shape ex before ((ms ++ ns) ++ after) s.left (join (join q.right q.left) r.right) s.first outer beside,
            λ k a. inl (within k a),
          )
