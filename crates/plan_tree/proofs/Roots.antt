-- Trees over other roots: over some of the roots in any order, over the operands of a root in its place, and over a new entry above some of them.
use Rattle.std.proofs.Common.{◌≡◌, ◌∙◌, ◌++◌, ◌<◌, false, List, [], ◌∷◌, length, Some, refl, sym, ap, subst, inl, inr, ⊎_elim, arith}
use Rattle.std.specs.Prelude.{slice_get}
use Rattle.std.specs.List.Sorted.{IsPermutation}
use Rattle.plan_core.specs.declared.arena.Node.{Node}
use Rattle.plan_tree.specs.Rose.{rose, no_roses, more, join}
use Rattle.plan_tree.specs.Stands.{Apart, Reaches, Shape, Stands, StandsOnce, Trees}
use Rattle.plan_tree.proofs.Frames.{Reaches-join, Stands-kept, join-left, join-right, slice_get-append, slice_get-append_last}
use Rattle.plan_tree.proofs.Numbers.{Reaches-within}
use Rattle.plan_tree.proofs.SplitLemmas.{StandsOnce-join, StandsOnce-split}
use Rattle.plan_tree.proofs.TreeLemmas.{opened}
use Rattle.plan_tree.specs.Forests.{OpenedAt, PickedOf, ReachesNoMore, StandsToo, ToppedBy}
use Rattle.plan_tree.proofs.Neighbours.{by_neighbours}

module _ {P : Type 0} (S : Shape P) where
  module _ (lp : List P) where
    joined_within : (a b c d : Trees P) → ReachesNoMore a c → ReachesNoMore b d → ReachesNoMore (join a b) (join c d)
    joined_within a b c d f g k r = ⊎_elim (λ x. join-left S c d k (f k x)) (λ x. join-right S c d k (g k x)) (Reaches-join S a b k r)

    from_whole : (t u : Trees P) → t ≡ u → ReachesNoMore u t
    from_whole t u e k r = subst (λ (x : Trees P). Reaches x k) (sym e) r

    -- trees side by side, where one of them stands over other numbers
    beside : (ns ms rs : List Node) → StandsToo S lp ns ms → StandsToo S lp (rs ++ ns) (rs ++ ms)
    beside ns ms rs h t s =
        let x = StandsOnce-split S lp rs ns t s in
        let y = h x.right x.second in (
          join x.left y.0,
          StandsOnce-join S lp rs ms x.left y.0 x.first y.1 (λ k a b. x.apart k a (y.2 k b)),
          λ k r. from_whole t (join x.left x.right) x.is k (joined_within x.left y.0 x.left x.right (λ j q. q) y.2 k r),
        )

    exchanged : (x y : Node) (zs : List Node) → StandsToo S lp (x ∷ y ∷ zs) (y ∷ x ∷ zs)
    exchanged x y zs t s =
        let a = StandsOnce-split S lp (x ∷ []) (y ∷ zs) t s in
        let b = StandsOnce-split S lp (y ∷ []) zs a.right a.second in
        let right : ReachesNoMore b.left a.right = λ k r. from_whole a.right (join b.left b.right) b.is k (join-left S b.left b.right k r) in
        let rest : ReachesNoMore b.right a.right = λ k r. from_whole a.right (join b.left b.right) b.is k (join-right S b.left b.right k r) in
        let lower = StandsOnce-join S lp (x ∷ []) zs a.left b.right a.first b.second (λ k p q. a.apart k p (rest k q)) in
        let apart : Apart b.left (join a.left b.right) = λ k p q. ⊎_elim (λ u. a.apart k u (right k p)) (λ u. b.apart k p u) (Reaches-join S a.left b.right k q) in (
          join b.left (join a.left b.right),
          StandsOnce-join S lp (y ∷ []) (x ∷ zs) b.left (join a.left b.right) b.first lower apart,
          λ k r. from_whole t (join a.left a.right) a.is k
              (⊎_elim (λ u. join-right S a.left a.right k (right k u)) (λ u. ⊎_elim (λ v. join-left S a.left a.right k v) (λ v. join-right S a.left a.right k (rest k v)) (Reaches-join S a.left b.right k u)) (Reaches-join S b.left (join a.left b.right) k r)),
        )

    -- in any order
    pub StandsOnce-shuffled : (ns ms : List Node) → IsPermutation ns ms → StandsToo S lp ns ms
    StandsOnce-shuffled ns ms h = by_neighbours (StandsToo S lp) (λ xs t s. (t, s, λ k r. r))
        (λ xs ys zs f g t s. let a = f t s in let b = g a.0 a.1 in (b.0, b.1, λ k r. a.2 k (b.2 k r)))
        (λ x xs ys f. beside xs ys (x ∷ []) f) exchanged ns ms h

    -- some of the roots, in any order, and the others
    pub StandsOnce-picked : (ns ms rest : List Node) (t : Trees P) → IsPermutation ns (ms ++ rest) → StandsOnce S lp ns t → PickedOf S lp ms rest t
    StandsOnce-picked ns ms rest t h s =
        let a = StandsOnce-shuffled ns (ms ++ rest) h t s in
        let b = StandsOnce-split S lp ms rest a.0 a.1 in (
          b.left,
          b.right,
          b.first,
          b.second,
          b.apart,
          (λ k r. a.2 k (from_whole a.0 (join b.left b.right) b.is k (join-left S b.left b.right k r))),
          (λ k r. a.2 k (from_whole a.0 (join b.left b.right) b.is k (join-right S b.left b.right k r))),
        )

    -- the operands of a root in its place; the root is reached no more
    pub StandsOnce-opened : (n : Node) (p : P) (ns : List Node) (t : Trees P) → slice_get lp n.0 ≡ Some p → StandsOnce S lp (n ∷ ns) t → OpenedAt S lp n p ns t
    StandsOnce-opened n p ns t e s =
        let a = StandsOnce-split S lp (n ∷ []) ns t s in
        let o = opened S lp n p a.left a.first e in
        let below : ReachesNoMore o.kids a.left = λ k r. subst (λ (x : Trees P). Reaches x k) (sym o.is) (inr (inl r)) in
        let top : Reaches a.left n.0 = subst (λ (x : Trees P). Reaches x n.0) (sym o.is) (inl refl) in (
          join o.kids a.right,
          StandsOnce-join S lp (S.inputs p) ns o.kids a.right o.inputs a.second (λ k q r. a.apart k (below k q) r),
          (λ k r. from_whole t (join a.left a.right) a.is k (joined_within o.kids a.right a.left a.right below (λ j q. q) k r)),
          λ r. ⊎_elim o.above (λ q. a.apart n.0 top q) (Reaches-join S o.kids a.right n.0 r),
        )

    -- trees stand on where an entry is added behind the others
    pub StandsOnce-longer : (q : P) (ns : List Node) (t : Trees P) → StandsOnce S lp ns t → StandsOnce S (lp ++ q ∷ []) ns t
    StandsOnce-longer q ns t s = record { stands = Stands-kept S lp (lp ++ q ∷ []) ns t s.stands (λ k r. slice_get-append S lp (q ∷ []) k (Reaches-within S lp ns t k s.stands r)); once = s.once }

    -- a new entry over the first roots
    pub StandsOnce-topped : (q : P) (n : Node) (ns ms : List Node) (t : Trees P) → n.0 ≡ length lp → S.inputs q ≡ ns → S.bad q ≡ false → StandsOnce S lp (ns ++ ms) t → ToppedBy S lp q n ms t
    StandsOnce-topped q n ns ms t at_end is fine s =
        let a = StandsOnce-split S lp ns ms t s in
        let first = StandsOnce-longer q ns a.left a.first in
        let second = StandsOnce-longer q ms a.right a.second in
        let outside : (us : List Node) (f : Trees P) → StandsOnce S lp us f → Reaches f n.0 → ⊥ = λ us f h r. (let lt : n.0 < length lp = Reaches-within S lp us f n.0 h.stands r in omega (arith, lt, at_end)) in
        let top : StandsOnce S (lp ++ q ∷ []) (n ∷ []) (more (rose n q a.left) no_roses) = record {
          stands = (refl, ap (slice_get (lp ++ q ∷ [])) at_end ∙ slice_get-append_last S lp q, fine, subst (λ (us : List Node). Stands S (lp ++ q ∷ []) us a.left) (sym is) first.stands, tt);
          once = (outside ns a.left a.first, (λ r. r), (λ k x y. y), first.once, tt);
        } in
        let apart : Apart (more (rose n q a.left) no_roses) a.right = λ k x y. ⊎_elim (λ e. outside ms a.right a.second (subst (Reaches a.right) e y)) (λ z. ⊎_elim (λ w. a.apart k w y) (λ w. w) z) x in (
          join (more (rose n q a.left) no_roses) a.right,
          StandsOnce-join S (lp ++ q ∷ []) (n ∷ []) ms (more (rose n q a.left) no_roses) a.right top second apart,
          λ k r. ⊎_elim (λ x. ⊎_elim (λ e. inl (e ∙ at_end)) (λ z. ⊎_elim (λ w. inr (from_whole t (join a.left a.right) a.is k (join-left S a.left a.right k w))) (λ w. absurd w) z) x)
              (λ x. inr (from_whole t (join a.left a.right) a.is k (join-right S a.left a.right k x))) (Reaches-join S (more (rose n q a.left) no_roses) a.right k r),
        )
