-- Trees of expressions over some of the roots.
use Rattle.std.proofs.Common.{◌≡◌, ◌++◌, List, sym, subst, ⊎_elim}
use Rattle.std.specs.List.Sorted.{IsPermutation}
use Rattle.plan_core.specs.declared.arena.Node.{Node}
use Rattle.plan_tree.specs.Forests.{ReachesNoMore, StandsToo}
use Rattle.plan_tree.specs.Rose.{join}
use Rattle.plan_tree.specs.Stands.{Apart, Reaches, Shape, Trees}
use Rattle.plan_tree.proofs.Frames.{Reaches-join, join-left, join-right}
use Rattle.plan_tree.proofs.Roots.{StandsOnce-picked}
use Rattle.plan_tree.proofs.SplitLemmas.{StandsOnce-join, StandsOnce-split}

module _ {P : Type 0} (S : Shape P) (lp : List P) where
  joined : (a b c d : Trees P) → ReachesNoMore a c → ReachesNoMore b d → ReachesNoMore (join a b) (join c d)
  joined a b c d f g k r = ⊎_elim (λ x. join-left S c d k (f k x)) (λ x. join-right S c d k (g k x)) (Reaches-join S a b k r)

  whole : (t u : Trees P) → t ≡ u → ReachesNoMore u t
  whole t u e k r = subst (λ (x : Trees P). Reaches x k) (sym e) r

  pub picked : (ns ms left : List Node) → IsPermutation ns (ms ++ left) → StandsToo S lp ns ms
  picked ns ms left h t s = let x = StandsOnce-picked S lp ns ms left t h s in (x.0, x.2, x.5)

  after : (ns ms ls : List Node) → StandsToo S lp ns ms → StandsToo S lp ms ls → StandsToo S lp ns ls
  after ns ms ls f g t s = let a = f t s in let b = g a.0 a.1 in (b.0, b.1, λ k r. a.2 k (b.2 k r))

  both : (xs ys zs ws : List Node) → StandsToo S lp xs ys → StandsToo S lp zs ws → StandsToo S lp (xs ++ zs) (ys ++ ws)
  both xs ys zs ws f g t s =
      let x = StandsOnce-split S lp xs zs t s in
      let a = f x.left x.first in
      let b = g x.right x.second in (
        join a.0 b.0,
        StandsOnce-join S lp ys ws a.0 b.0 a.1 b.1 (λ k p q. x.apart k (a.2 k p) (b.2 k q)),
        λ k r. whole t (join x.left x.right) x.is k (joined a.0 b.0 x.left x.right a.2 b.2 k r),
      )

  -- the second of three parts goes first
  raised : (xs ys zs : List Node) → StandsToo S lp (xs ++ (ys ++ zs)) (ys ++ (xs ++ zs))
  raised xs ys zs t s =
      let a = StandsOnce-split S lp xs (ys ++ zs) t s in
      let b = StandsOnce-split S lp ys zs a.right a.second in
      let right : ReachesNoMore b.left a.right = λ k r. whole a.right (join b.left b.right) b.is k (join-left S b.left b.right k r) in
      let rest : ReachesNoMore b.right a.right = λ k r. whole a.right (join b.left b.right) b.is k (join-right S b.left b.right k r) in
      let lower = StandsOnce-join S lp xs zs a.left b.right a.first b.second (λ k p q. a.apart k p (rest k q)) in
      let apart : Apart b.left (join a.left b.right) = λ k p q. ⊎_elim (λ u. a.apart k u (right k p)) (λ u. b.apart k p u) (Reaches-join S a.left b.right k q) in (
        join b.left (join a.left b.right),
        StandsOnce-join S lp ys (xs ++ zs) b.left (join a.left b.right) b.first lower apart,
        λ k r. whole t (join a.left a.right) a.is k
            (⊎_elim (λ u. join-right S a.left a.right k (right k u)) (λ u. ⊎_elim (λ v. join-left S a.left a.right k v) (λ v. join-right S a.left a.right k (rest k v)) (Reaches-join S a.left b.right k u)) (Reaches-join S b.left (join a.left b.right) k r)),
      )

  -- roots between others, over which others stand
  pub between : (xs ys zs ws ls ms : List Node) → StandsToo S lp (xs ++ ys) (zs ++ ws) → StandsToo S lp ls ms → StandsToo S lp (xs ++ (ls ++ ys)) (zs ++ (ms ++ ws))
  between xs ys zs ws ls ms f h =
      after (xs ++ (ls ++ ys)) (ls ++ (xs ++ ys)) (zs ++ (ms ++ ws)) (raised xs ls ys)
      (after (ls ++ (xs ++ ys)) (ms ++ (zs ++ ws)) (zs ++ (ms ++ ws)) (both ls ms (xs ++ ys) (zs ++ ws) h f) (raised ms zs ws))
