-- The loop of `levels_of`.
use Rattle.std.proofs.Common.{◌≡◌, ℕ, ◌+◌, ◌<◌, ◌≤◌, List, [], ◌∷◌, ◌++◌, length, max, reverse, refl, ◌∙◌, ap, arith, Some}
use Rattle.std.specs.List.{slice_get}
use Rattle.std.proofs.lemmas.Option.{slice_get_within}
use Rattle.std.proofs.lemmas.List.{reverse-append, reverse-reverse}
use Rattle.plan_core.specs.declared.arena.Node.{Node}
use Rattle.plan_tree.specs.declared.walking.Step.{Step}
use Rattle.plan_tree.proofs.Frames.{Stands-join}
use Rattle.plan_tree.proofs.JoinLemmas.{size-join, levels-join}
use Rattle.plan_tree.proofs.Numbers.{size-le}
use Rattle.plan_tree.proofs.ReadLemmas.{gather-is, trees_at-is}
use Rattle.plan_tree.proofs.TreeLemmas.{levels-le-size}
use Rattle.plan_tree.proofs.WalkTrees.{nodes-next, nodes-steps}
use Rattle.plan_tree.specs.Read.{trees_at}
use Rattle.plan_tree.specs.Rose.{rose, no_roses, more, size, levels, join}
use Rattle.plan_tree.specs.Stands.{Shape, Trees, Stands, StandsOnce}
use Rattle.plan_tree.specs.Walk.{nodes_of, steps_to}

-- the deepest level of trees whose tops stand on the levels that the steps are marked with
abbrev pub reach : {P : Type 0} → List (Step ℕ) → Trees P → ℕ
reach ss no_roses = 0
reach [] (more (rose n p kids) rest) = 0
reach (s ∷ ss) (more (rose n p kids) rest) = max (s.mark + levels kids) (reach ss rest)

module _ {P : Type 0} (S : Shape P) where
  -- the loop at a turn: trees stand at the pending steps, and the deepest level is met or is one of theirs
  pub record Deep (lp : List P) (roots : List Node) (deepest : ℕ) (pending : List (Step ℕ)) : Type 0 where
    pub trees : Trees P
    pub stands : Stands S lp (nodes_of (reverse pending)) trees
    pub low : levels trees ≤ length lp
    pub is : max deepest (reach (reverse pending) trees) ≡ levels (trees_at S lp roots)

  -- the measure of the loop: how many nodes stand at and below the pending steps
  unfoldable pub left : List P → List (Step ℕ) → ℕ
  left lp pending = size (trees_at S lp (nodes_of (reverse pending)))

  -- inputs one level down reach as deep as the node's level and their own levels
  reach-down : (l : ℕ) (lp : List P) (ns : List Node) (f : Trees P) → Stands S lp ns f → max l (reach (steps_to (l + 1) ns) f) ≡ l + levels f
  reach-down l lp [] no_roses s = omega arith
  reach-down l lp [] (more (rose m p kids) rest) s = absurd s
  reach-down l lp (n ∷ ns) no_roses s = absurd s
  reach-down l lp (n ∷ ns) (more (rose m p kids) rest) s = omega (arith, reach-down l lp ns rest s.4)

  reach-join : (lp : List P) (ss rs : List (Step ℕ)) (f g : Trees P) → Stands S lp (nodes_of ss) f → reach (ss ++ rs) (join f g) ≡ max (reach ss f) (reach rs g)
  reach-join lp [] rs no_roses g s = omega arith
  reach-join lp [] rs (more (rose m p kids) rest) g s = absurd s
  reach-join lp (n ∷ ss) rs no_roses g s = absurd s
  reach-join lp (n ∷ ss) rs (more (rose m p kids) rest) g s = omega (arith, reach-join lp ss rs rest g s.4)

  pub Deep-init : (lp : List P) (roots : List Node) → ((t : Trees P) × StandsOnce S lp roots t) → Deep lp roots 0 (reverse (steps_to {W = ℕ} 1 roots))
  Deep-init lp roots h = record {
    trees = h.0;
    stands = rw (reverse-reverse (steps_to {W = ℕ} 1 roots), nodes-steps {W = ℕ} 1 roots) h.1.stands;
    low = omega (arith, levels-le-size S h.0, size-le S lp roots h.0 h.1);
    is = rw (reverse-reverse (steps_to {W = ℕ} 1 roots), trees_at-is S lp roots h.0 h.1) (omega (arith, reach-down 0 lp roots h.0 h.1.stands));
  }

  -- one turn: what is left, and that it is less
  pub record Turn (lp : List P) (roots : List Node) (deepest : ℕ) (s : Step ℕ) (before after : List (Step ℕ)) : Type 0 where
    pub next : Deep lp roots (max deepest s.mark) after
    pub falls : left lp after < left lp before

  turn_of : (lp : List P) (roots : List Node) (deepest : ℕ) (s : Step ℕ) (ss : List (Step ℕ)) (f : Trees P) → Stands S lp (s.node ∷ nodes_of ss) f → levels f ≤ length lp → max deepest (reach (s ∷ ss) f) ≡ levels (trees_at S lp roots) → (q : P) → slice_get lp s.node.0 ≡ Some q → (before after : List (Step ℕ)) → reverse before ≡ s ∷ ss → reverse after ≡ steps_to (s.mark + 1) (S.inputs q) ++ ss → Turn lp roots deepest s before after
  unfolding left
  turn_of lp roots deepest s ss no_roses st low is q e before after b a = absurd st
  turn_of lp roots deepest s ss (more (rose m p kids) rest) st low is q e before after b a =
      let same : p ≡ q = (let u = st.1 in cc) in
      let ins : List (Step ℕ) = steps_to (s.mark + 1) (S.inputs q) in
      let k : Stands S lp (S.inputs q) kids = rw (← same) st.3 in
      let both : Stands S lp (S.inputs q ++ nodes_of ss) (join kids rest) = Stands-join S lp (S.inputs q) (nodes_of ss) kids rest k st.4 in
      let lv : levels (join kids rest) ≤ length lp = omega (arith, levels-join kids rest) in
      let down = reach-down s.mark lp (S.inputs q) kids k in
      let across = reach-join lp ins ss kids rest (rw nodes-steps k) in
      let now : trees_at S lp (nodes_of (reverse before)) ≡ more (rose m p kids) rest = rw b (gather-is S (length lp) lp (s.node ∷ nodes_of ss) (more (rose m p kids) rest) st low) in
      let then : trees_at S lp (nodes_of (reverse after)) ≡ join kids rest = rw (a, nodes-next) (gather-is S (length lp) lp (S.inputs q ++ nodes_of ss) (join kids rest) both lv) in
      record {
        next = record {
          trees = join kids rest;
          stands = rw (a, nodes-next) both;
          low = lv;
          is = rw a (omega (arith, down, across, is));
        };
        falls = rw (now, then) (omega (arith, size-join kids rest));
      }

  reverse-last : (before pending : List (Step ℕ)) (s : Step ℕ) → before ≡ pending ++ s ∷ [] → reverse before ≡ s ∷ reverse pending
  reverse-last before pending s is = ap reverse is ∙ reverse-append pending (s ∷ [])

  pub turn : (lp : List P) (roots : List Node) (deepest : ℕ) (s : Step ℕ) (before pending after : List (Step ℕ)) (q : P) → before ≡ pending ++ s ∷ [] → Deep lp roots deepest before → slice_get lp s.node.0 ≡ Some q → after ≡ pending ++ reverse (steps_to (s.mark + 1) (S.inputs q)) → Turn lp roots deepest s before after
  turn lp roots deepest s before pending after q is d e then =
      let b = reverse-last before pending s is in
      let a : reverse after ≡ steps_to (s.mark + 1) (S.inputs q) ++ reverse pending = ap reverse then ∙ rw (reverse-append, reverse-reverse) refl in
      turn_of lp roots deepest s (reverse pending) d.trees (rw b at d.stands) d.low (rw b at d.is) q e before after b a

  -- the number on top is in the arena, and its level is one of the trees'
  pub on_top : (lp : List P) (roots : List Node) (deepest : ℕ) (s : Step ℕ) (before pending : List (Step ℕ)) → before ≡ pending ++ s ∷ [] → Deep lp roots deepest before → (s.node.0 < length lp) × (s.mark ≤ levels (trees_at S lp roots))
  on_top lp roots deepest s before pending is d =
      let b = reverse-last before pending s is in
      go (reverse pending) d.trees (rw b at d.stands) (rw b at d.is)
    where
      go : (ss : List (Step ℕ)) (f : Trees P) → Stands S lp (s.node ∷ nodes_of ss) f → max deepest (reach (s ∷ ss) f) ≡ levels (trees_at S lp roots) → (s.node.0 < length lp) × (s.mark ≤ levels (trees_at S lp roots))
      go ss no_roses st h = absurd st
      go ss (more (rose m p kids) rest) st h = (slice_get_within lp s.node.0 p st.1, omega arith)

  pub Deep-end : (lp : List P) (roots : List Node) (deepest : ℕ) → Deep lp roots deepest [] → deepest ≡ levels (trees_at S lp roots)
  Deep-end lp roots deepest d = go d.trees d.stands d.is
    where
      go : (f : Trees P) → Stands S lp [] f → max deepest (reach [] f) ≡ levels (trees_at S lp roots) → deepest ≡ levels (trees_at S lp roots)
      go no_roses st h = omega arith
      go (more (rose m p kids) rest) st h = absurd st

  -- trees that stand have no more levels than the arena has entries
  pub levels-fit : (lp : List P) (roots : List Node) → ((t : Trees P) × StandsOnce S lp roots t) → levels (trees_at S lp roots) ≤ length lp
  levels-fit lp roots h = rw (trees_at-is S lp roots h.0 h.1) (omega (arith, levels-le-size S h.0, size-le S lp roots h.0 h.1))
