-- What is read at numbers is what stands there.
use Rattle.std.proofs.Common.{◌≡◌, ℕ, zero, suc, ◌≤◌, List, [], ◌∷◌, length, refl, arith}
use Rattle.plan_core.specs.declared.arena.Node.{Node}
use Rattle.plan_tree.proofs.JoinLemmas.{join-none}
use Rattle.plan_tree.proofs.Numbers.{size-le}
use Rattle.plan_tree.proofs.TreeLemmas.{levels-le-size}
use Rattle.plan_tree.specs.Read.{gather, tree_within, tree_at, trees_at}
use Rattle.plan_tree.specs.Rose.{rose, no_roses, more, levels}
use Rattle.plan_tree.specs.Stands.{Shape, Trees, Stands, StandsOnce}

module _ {P : Type 0} (S : Shape P) where
  -- trees of no more levels than are read
  pub gather-is : (k : ℕ) (lp : List P) (ns : List Node) (f : Trees P) → Stands S lp ns f → levels f ≤ k → gather (tree_within S k lp) ns ≡ f
  unfolding tree_within
  gather-is k lp [] no_roses s h = refl
  gather-is k lp [] (more (rose n p kids) rest) s h = absurd s
  gather-is k lp (m ∷ ns) no_roses s h = absurd s
  gather-is zero lp (m ∷ ns) (more (rose n p kids) rest) s h = absurd (omega arith)
  gather-is (suc k) lp (m ∷ ns) (more (rose n p kids) rest) s h =
      let a : gather (tree_within S k lp) (S.inputs p) ≡ kids = gather-is k lp (S.inputs p) kids s.3 (omega arith) in
      let b : gather (tree_within S (suc k) lp) ns ≡ rest = gather-is (suc k) lp ns rest s.4 (omega arith) in
      rw (s.1, a, b, s.0) refl

  -- the trees that stand at numbers are those that are read there
  pub trees_at-is : (lp : List P) (ns : List Node) (f : Trees P) → StandsOnce S lp ns f → trees_at S lp ns ≡ f
  trees_at-is lp ns f h = gather-is (length lp) lp ns f h.stands (omega (arith, levels-le-size S f, size-le S lp ns f h))

  -- the tree that stands at a number is the one that is read there
  pub tree_at-is : (lp : List P) (n : Node) (t : Trees P) → StandsOnce S lp (n ∷ []) t → tree_at S lp n ≡ t
  tree_at-is lp n t h = rw (← join-none (tree_at S lp n)) (trees_at-is lp (n ∷ []) t h)

  -- where trees stand, those that are read stand
  pub trees_at-stands : (lp : List P) (ns : List Node) (f : Trees P) → StandsOnce S lp ns f → StandsOnce S lp ns (trees_at S lp ns)
  trees_at-stands lp ns f h = rw (trees_at-is lp ns f h) h

  pub tree_at-stands : (lp : List P) (n : Node) (t : Trees P) → StandsOnce S lp (n ∷ []) t → StandsOnce S lp (n ∷ []) (tree_at S lp n)
  tree_at-stands lp n t h = rw (tree_at-is lp n t h) h
