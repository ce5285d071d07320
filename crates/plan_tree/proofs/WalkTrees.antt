-- A walk meets no fault exactly where trees stand, and then lists their labels.
use Rattle.std.proofs.Common.{◌≡◌, ℕ, zero, suc, ◌≤◌, Bool, true, false, ◌||◌, List, [], ◌∷◌, ◌++◌, length, refl, sym, ◌∙◌, ap, inl, inr, arith, Some, None, Option, if◌then◌else◌, ◌↔◌}
use Rattle.std.specs.Bool.{nat_eq}
use Rattle.std.specs.List.{slice_get, list_any}
use Rattle.plan_core.specs.declared.arena.Node.{Node}
use Rattle.plan_tree.specs.declared.walking.Step.{Step}
use Rattle.plan_tree.specs.declared.walking.Walked.{Walked}
use Rattle.plan_tree.proofs.Frames.{join-left, join-right, Reaches-join, IsOnce-join, Stands-join}
use Rattle.plan_tree.proofs.JoinLemmas.{size-join, labels-join}
use Rattle.plan_tree.proofs.Numbers.{differ-from_nat_eq, nat_eq-from_differ, size-le}
use Rattle.plan_tree.proofs.SplitLemmas.{Stands-split, IsOnce-split}
use Rattle.plan_tree.proofs.WalkLemmas.{walk_on-end, walk_on-fault, walk_on-next}
use Rattle.plan_tree.specs.Rose.{rose, no_roses, more, size, labels, join}
use Rattle.plan_tree.specs.Stands.{Shape, Trees, Reaches, Stands, StandsOnce}
use Rattle.plan_tree.specs.Walk.{if_new, entry_if_new, nodes_of, steps_to, walk_on, walk_from}

or_false : (a b : Bool) → (a || b) ≡ false → (a ≡ false) × (b ≡ false)
or_false true b h = cc
or_false false b h = (refl, h)

module _ {W : Type 0} where
  -- the numbers of steps that come before others
  pub nodes-next : (w : W) (ns : List Node) (ss : List (Step W)) → nodes_of (steps_to w ns ++ ss) ≡ ns ++ nodes_of ss
  nodes-next w [] ss = refl
  nodes-next w (n ∷ ns) ss = ap (λ (x : List Node). n ∷ x) (nodes-next w ns ss)

  pub nodes-steps : (w : W) (ns : List Node) → nodes_of (steps_to w ns) ≡ ns
  nodes-steps w [] = refl
  nodes-steps w (n ∷ ns) = ap (λ (x : List Node). n ∷ x) (nodes-steps w ns)

module _ {P : Type 0} (S : Shape P) where
  -- what an entry that is new has
  record New (lp : List P) (met : List ℕ) (n : Node) (p : P) : Type 0 where
    entry : slice_get lp n.0 ≡ Some p
    off : list_any (nat_eq n.0) met ≡ false
    good : S.bad p ≡ false

  new_of : (lp : List P) (met : List ℕ) (n : Node) (p : P) → entry_if_new S lp (list_any (nat_eq n.0) met) n ≡ Some p → New lp met n p
  new_of lp met n p h = go (list_any (nat_eq n.0) met) (slice_get lp n.0) refl refl h
    where
      fits : (b : Bool) (q : P) → S.bad q ≡ b → (if b then None else Some q) ≡ Some p → (S.bad p ≡ false) × (q ≡ p)
      fits true q e h = cc
      fits false q e h = (let q≡p : q ≡ p = cc in rw (← q≡p) e, cc)

      go : (b : Bool) (o : Option P) → list_any (nat_eq n.0) met ≡ b → slice_get lp n.0 ≡ o → if_new S b o ≡ Some p → New lp met n p
      go true None e f h = cc
      go false None e f h = cc
      go true (Some q) e f h = cc
      go false (Some q) e f h = let w = fits (S.bad q) q refl h in record { entry = f ∙ ap Some w.1; off = e; good = w.0 }

  new-from : (lp : List P) (met : List ℕ) (n : Node) (p : P) → slice_get lp n.0 ≡ Some p → list_any (nat_eq n.0) met ≡ false → S.bad p ≡ false → entry_if_new S lp (list_any (nat_eq n.0) met) n ≡ Some p
  new-from lp met n p e off good = rw (e, off, good) refl

module _ {P W : Type 0} (S : Shape P) where
  -- trees that stand over the numbers of steps, none of whose numbers was met, and that the walk lists
  pub record Found (lp : List P) (met : List ℕ) (ss : List (Step W)) : Type 0 where
    pub trees : Trees P
    pub stands : StandsOnce S lp (nodes_of ss) trees
    pub fresh : (k : ℕ) → Reaches trees k → list_any (nat_eq k) met ≡ false

  found-above : (lp : List P) (met : List ℕ) (s : Step W) (ss : List (Step W)) (p : P) → New S lp met s.node p → Found lp (s.node.0 ∷ met) (steps_to s.mark (S.inputs p) ++ ss) → Found lp met (s ∷ ss)
  found-above lp met s ss p h found =
      let all : Stands S lp (S.inputs p ++ nodes_of ss) found.trees = rw nodes-next at found.stands.stands in
      let parts = Stands-split S lp (S.inputs p) (nodes_of ss) found.trees all in
      let once = IsOnce-split S parts.left parts.right (rw parts.is at found.stands.once) in
      let n = s.node in
      let off : (k : ℕ) → Reaches (join parts.left parts.right) k → (nat_eq k n.0 ≡ false) × (list_any (nat_eq k) met ≡ false) = λ k r. or_false (nat_eq k n.0) (list_any (nat_eq k) met) (found.fresh k (rw parts.is r)) in
      record {
        trees = more (rose n p parts.left) parts.right;
        stands = record {
          stands = (refl, h.entry, h.good, parts.first, parts.second);
          once = ((λ r. differ-from_nat_eq n.0 n.0 (off n.0 (join-left S parts.left parts.right n.0 r)).0 refl), (λ r. differ-from_nat_eq n.0 n.0 (off n.0 (join-right S parts.left parts.right n.0 r)).0 refl), once.apart, once.left, once.right);
        };
        fresh = λ k r. elim r as (λ _. list_any (nat_eq k) met ≡ false) [
          | inl e ↦ rw e h.off
          | inr t ↦ elim t as (λ _. list_any (nat_eq k) met ≡ false) [ inl u ↦ (off k (join-left S parts.left parts.right k u)).1 | inr v ↦ (off k (join-right S parts.left parts.right k v)).1 ]
        ];
      }

  found-none : (lp : List P) (met : List ℕ) → Found lp met []
  found-none lp met = record { trees = no_roses; stands = record { stands = tt; once = tt }; fresh = λ k r. absurd r }

  walk_on-sound : (left : ℕ) (lp : List P) (met : List ℕ) (ss : List (Step W)) → (walk_on S left lp met ss).fault ≡ None → Found lp met ss
  unfolding walk_on
  walk_on-sound zero lp met [] e = found-none lp met
  walk_on-sound zero lp met (s ∷ ss) e = cc
  walk_on-sound (suc left) lp met [] e = found-none lp met
  walk_on-sound (suc left) lp met (s ∷ ss) e =
      go (entry_if_new S lp (list_any (nat_eq s.node.0) met) s.node) refl (λ p f. walk_on-sound left lp (s.node.0 ∷ met) (steps_to s.mark (S.inputs p) ++ ss) (ap (λ (w : Walked W). w.fault) (sym (walk_on-next S left lp met s ss p f)) ∙ e))
    where
      go : (o : Option P) → entry_if_new S lp (list_any (nat_eq s.node.0) met) s.node ≡ o → ((p : P) → entry_if_new S lp (list_any (nat_eq s.node.0) met) s.node ≡ Some p → Found lp (s.node.0 ∷ met) (steps_to s.mark (S.inputs p) ++ ss)) → Found lp met (s ∷ ss)
      go None f below = (let u = ap (λ (w : Walked W). w.fault) (walk_on-fault S (suc left) lp met s ss f) in cc)
      go (Some p) f below = found-above lp met s ss p (new_of S lp met s.node p f) (below p f)

  walk_on-complete : (left : ℕ) (lp : List P) (met : List ℕ) (ss : List (Step W)) (f : Trees P) → StandsOnce S lp (nodes_of ss) f → ((k : ℕ) → Reaches f k → list_any (nat_eq k) met ≡ false) → size f ≤ left → walk_on S left lp met ss ≡ record { listed = labels f; fault = None }
  walk_on-complete left lp met [] no_roses h fresh small = walk_on-end S left lp met
  walk_on-complete left lp met [] (more (rose m p kids) rest) h fresh small = absurd h.stands
  walk_on-complete left lp met (s ∷ ss) no_roses h fresh small = absurd h.stands
  walk_on-complete zero lp met (s ∷ ss) (more (rose m p kids) rest) h fresh small = absurd (omega arith)
  walk_on-complete (suc left) lp met (s ∷ ss) (more (rose m p kids) rest) h fresh small =
      let n : Node = s.node in
      let e : n.0 ≡ m.0 = ap (λ (x : Node). x.0) h.stands.0 in
      let new : entry_if_new S lp (list_any (nat_eq n.0) met) n ≡ Some p = new-from S lp met n p h.stands.1 (fresh n.0 (inl e)) h.stands.2 in
      let below : StandsOnce S lp (S.inputs p ++ nodes_of ss) (join kids rest) = record { stands = Stands-join S lp (S.inputs p) (nodes_of ss) kids rest h.stands.3 h.stands.4; once = IsOnce-join S kids rest h.once.3 h.once.4 h.once.2 } in
      let step : walk_on S left lp (n.0 ∷ met) (steps_to s.mark (S.inputs p) ++ ss) ≡ record { listed = labels (join kids rest); fault = None } =
      walk_on-complete left lp (n.0 ∷ met) (steps_to s.mark (S.inputs p) ++ ss) (join kids rest) (rw nodes-next below)
      (λ k r. elim (Reaches-join S kids rest k r) as (λ _. (nat_eq k n.0 || list_any (nat_eq k) met) ≡ false) [
        | inl u ↦ rw (nat_eq-from_differ k n.0 (λ q. h.once.0 (rw (← e, ← q) u))) (fresh k (inr (inl u)))
        | inr v ↦ rw (nat_eq-from_differ k n.0 (λ q. h.once.1 (rw (← e, ← q) v))) (fresh k (inr (inr v)))
      ])
      (omega (arith, size-join kids rest)) in
      walk_on-next S left lp met s ss p new ∙ rw (step, labels-join kids rest, h.stands.0) refl

  -- trees stand over roots exactly where the walk from them has no fault
  pub trees_from_walk : (lp : List P) (roots : List (Step W)) → (walk_from S lp roots).fault ≡ None → (t : Trees P) × StandsOnce S lp (nodes_of roots) t
  trees_from_walk lp roots e = let f = walk_on-sound (length lp) lp [] roots e in (f.trees, f.stands)

  pub walk_from_trees : (lp : List P) (roots : List (Step W)) (t : Trees P) → StandsOnce S lp (nodes_of roots) t → walk_from S lp roots ≡ record { listed = labels t; fault = None }
  walk_from_trees lp roots t h = walk_on-complete (length lp) lp [] roots t h (λ k r. refl) (size-le S lp (nodes_of roots) t h)

  -- what a walk says of the trees over its roots
  pub walked-stands : (lp : List P) (roots : List (Step W)) (w : Walked W) → w ≡ walk_from S lp roots → (w.fault ≡ None) ↔ ((t : Trees P) × StandsOnce S lp (nodes_of roots) t)
  walked-stands lp roots w is = ((λ e. trees_from_walk lp roots (ap (λ (x : Walked W). x.fault) (sym is) ∙ e)), (λ h. ap (λ (x : Walked W). x.fault) (is ∙ walk_from_trees lp roots h.0 h.1)))

  pub walked-in_order : (lp : List P) (roots : List (Step W)) (w : Walked W) → w ≡ walk_from S lp roots → (t : Trees P) → StandsOnce S lp (nodes_of roots) t → w.listed ≡ labels t
  walked-in_order lp roots w is t h = ap (λ (x : Walked W). x.listed) (is ∙ walk_from_trees lp roots t h)
