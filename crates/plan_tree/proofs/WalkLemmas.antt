-- The loop of `walk` follows `walk_on`.
use Rattle.std.proofs.Common.{◌≡◌, ℕ, zero, suc, ◌+◌, ◌<◌, ◌≤◌, Bool, true, false, cond, ◌||◌, List, [], ◌∷◌, ◌++◌, length, reverse, refl, sym, ◌∙◌, inl, inr, arith, Some, None, Option, append_assoc, append-nil, length-append}
use Rattle.std.specs.Bool.{nat_eq}
use Rattle.std.specs.List.{AllByRecursion, IsDistinct, slice_get, list_any}
use Rattle.std.proofs.lemmas.List.{reverse-append, reverse-reverse}
use Rattle.std.proofs.lemmas.Bool.{eq-eqb}
use Rattle.std.proofs.lemmas.Map.Steps.{length-le_from_distinct_below}
use Rattle.std.proofs.lemmas.Bool.Decides.{eqb_tells}
use Rattle.std.proofs.lemmas.Option.{slice_get_within}
use Rattle.plan_core.specs.declared.arena.Node.{Node}
use Rattle.plan_tree.specs.declared.walking.Step.{Step}
use Rattle.plan_tree.specs.declared.walking.Walked.{Walked}
use Rattle.plan_tree.specs.Stands.{Shape}
use Rattle.plan_tree.proofs.Numbers.{nat_eq-from_differ}
use Rattle.plan_tree.specs.Walk.{ended, after, if_new, entry_if_new, steps_to, walk_on, walk_from}

reverse-push : {X : Type 0} (xs : List X) (x : X) → reverse (xs ++ x ∷ []) ≡ x ∷ reverse xs
reverse-push xs x = reverse-append xs (x ∷ [])

-- a number that isn't among others differs from each of them
all_differ : (x : ℕ) (ys : List ℕ) → list_any (nat_eq x) ys ≡ false → AllByRecursion (λ y. nat_eq x y ≡ false) ys
all_differ x [] h = tt
all_differ x (y ∷ ys) h = go (nat_eq x y) refl h (λ f. all_differ x ys f)
  where
    go : (b : Bool) → nat_eq x y ≡ b → (b || list_any (nat_eq x) ys) ≡ false → (list_any (nat_eq x) ys ≡ false → AllByRecursion (λ z. nat_eq x z ≡ false) ys) → AllByRecursion (λ z. nat_eq x z ≡ false) (y ∷ ys)
    go true e g rest = cc
    go false e g rest = (e, rest g)

-- a number more that is met
either : (n k : ℕ) (b c : Bool) → b ≡ c → cond (nat_eq n k) true b ≡ (nat_eq k n || c)
either n k b c e = elim (eqb_tells n k) as (λ _. cond (nat_eq n k) true b ≡ (nat_eq k n || c)) [
  | inl a ↦ rw (a.0, a.1, eq-eqb k k refl) refl
  | inr d ↦ rw (d.0, nat_eq-from_differ k n (λ h. d.1 (sym h))) e
]

module _ {P : Type 0} (S : Shape P) where
  -- what an entry that is new says of the number
  new-in : (lp : List P) (b : Bool) (n : Node) (p : P) → entry_if_new S lp b n ≡ Some p → (n.0 < length lp) × (b ≡ false)
  new-in lp b n p e = go b (slice_get lp n.0) refl e
    where
      go : (c : Bool) (o : Option P) → slice_get lp n.0 ≡ o → if_new S c o ≡ Some p → (n.0 < length lp) × (c ≡ false)
      go true None f h = cc
      go false None f h = cc
      go true (Some q) f h = cc
      go false (Some q) f h = (slice_get_within lp n.0 q f, refl)

  -- what is met lies in the arena
  lower : (lp : List P) (n : Node) (met : List ℕ) (k : ℕ) → n.0 < length lp → ((j : ℕ) → list_any (nat_eq j) met ≡ true → j < length lp) → list_any (nat_eq k) (n.0 ∷ met) ≡ true → k < length lp
  lower lp n met k lt low h = elim (eqb_tells k n.0) as (λ _. k < length lp) [
    | inl a ↦ rw (a.1) lt
    | inr b ↦ low k (rw b.0 at h)
  ]

module _ {P W : Type 0} (S : Shape P) where
  -- a walk that met these numbers before it
  abbrev pub after_all : List Node → Walked W → Walked W
  after_all ns w = record { listed = ns ++ w.listed; fault = w.fault }

  -- the loop at a turn: which numbers were met, how many more there can be, and that the walk from here ends as the whole one does
  pub record Walking (lp : List P) (roots : List (Step W)) (keys : List ℕ) (listed : List Node) (pending : List (Step W)) : Type 0 where
    pub met : List ℕ
    pub left : ℕ
    pub marks : (k : ℕ) → list_any (nat_eq k) keys ≡ list_any (nat_eq k) met
    pub distinct : IsDistinct nat_eq met
    pub low : (k : ℕ) → list_any (nat_eq k) met ≡ true → k < length lp
    pub count : length met ≡ length listed
    pub fits : left + length met ≡ length lp
    pub same : after_all listed (walk_on S left lp met (reverse pending)) ≡ walk_from S lp roots

  pub Walking-init : (lp : List P) (roots : List (Step W)) (keys : List ℕ) → keys ≡ [] → Walking lp roots keys [] (reverse roots)
  unfolding IsDistinct
  Walking-init lp roots keys is = rw is (record {
    met = [];
    left = length lp;
    marks = λ k. refl;
    distinct = tt;
    low = λ k h. cc;
    count = refl;
    fits = omega arith;
    same = rw (reverse-reverse roots) refl;
  })

  pub walk_on-end : (left : ℕ) (lp : List P) (met : List ℕ) → walk_on {W = W} S left lp met [] ≡ ended None
  unfolding walk_on
  walk_on-end zero lp met = refl
  walk_on-end (suc left) lp met = refl

  pub walk_on-fault : (left : ℕ) (lp : List P) (met : List ℕ) (s : Step W) (ss : List (Step W)) → entry_if_new S lp (list_any (nat_eq s.node.0) met) s.node ≡ None → walk_on S left lp met (s ∷ ss) ≡ ended (Some s)
  unfolding walk_on
  walk_on-fault zero lp met s ss e = refl
  walk_on-fault (suc left) lp met s ss e = rw (e, walk_on) refl

  pub walk_on-next : (left : ℕ) (lp : List P) (met : List ℕ) (s : Step W) (ss : List (Step W)) (p : P) → entry_if_new S lp (list_any (nat_eq s.node.0) met) s.node ≡ Some p → walk_on S (suc left) lp met (s ∷ ss) ≡ after s.node (walk_on S left lp (s.node.0 ∷ met) (steps_to s.mark (S.inputs p) ++ ss))
  unfolding walk_on
  walk_on-next left lp met s ss p e = rw (e, walk_on) refl

  -- nothing is left to walk
  pub Walking-end : (lp : List P) (roots : List (Step W)) (keys : List ℕ) (listed : List Node) → Walking lp roots keys listed [] → record { listed = listed; fault = None } ≡ walk_from S lp roots
  Walking-end lp roots keys listed w =
      let e : after_all listed (walk_on S w.left lp w.met []) ≡ record { listed = listed; fault = None } = rw (walk_on-end w.left lp w.met, append-nil) refl in
      sym e ∙ w.same

  -- the number on top is bad
  pub Walking-fault : (lp : List P) (roots : List (Step W)) (keys : List ℕ) (listed : List Node) (all pending : List (Step W)) (s : Step W) → Walking lp roots keys listed all → all ≡ pending ++ s ∷ [] → entry_if_new S lp (list_any (nat_eq s.node.0) keys) s.node ≡ None → record { listed = listed; fault = Some s } ≡ walk_from S lp roots
  Walking-fault lp roots keys listed all pending s v is none =
      let w : Walking lp roots keys listed (pending ++ s ∷ []) = rw is at v in
      let e : walk_on S w.left lp w.met (reverse (pending ++ s ∷ [])) ≡ ended (Some s) = rw reverse-push (walk_on-fault w.left lp w.met s (reverse pending) (rw (w.marks s.node.0) at none)) in
      let f : after_all listed (walk_on S w.left lp w.met (reverse (pending ++ s ∷ []))) ≡ record { listed = listed; fault = Some s } = rw (e, append-nil) refl in
      sym f ∙ w.same

  -- a number that is new is one of those that were left
  pub met-falls : (lp : List P) (roots : List (Step W)) (keys : List ℕ) (listed : List Node) (all : List (Step W)) (n : Node) (p : P) → Walking lp roots keys listed all → entry_if_new S lp (list_any (nat_eq n.0) keys) n ≡ Some p → length listed < length lp
  unfolding IsDistinct
  met-falls lp roots keys listed all n p w e =
      let new = new-in S lp (list_any (nat_eq n.0) keys) n p e in
      let apart : list_any (nat_eq n.0) w.met ≡ false = sym (w.marks n.0) ∙ new.1 in
      let fits : length (n.0 ∷ w.met) ≤ length lp = length-le_from_distinct_below (n.0 ∷ w.met) (length lp) (all_differ n.0 w.met apart, w.distinct) (λ k h. lower S lp n w.met k new.0 w.low h) in
      omega (arith, fits, w.count)

  -- the number on top is met, and its inputs come next
  pub Walking-next : (lp : List P) (roots : List (Step W)) (keys after_keys : List ℕ) (listed : List Node) (all pending : List (Step W)) (s : Step W) (p : P) → Walking lp roots keys listed all → all ≡ pending ++ s ∷ [] → entry_if_new S lp (list_any (nat_eq s.node.0) keys) s.node ≡ Some p → ((k : ℕ) → list_any (nat_eq k) after_keys ≡ cond (nat_eq s.node.0 k) true (list_any (nat_eq k) keys)) → Walking lp roots after_keys (listed ++ s.node ∷ []) (pending ++ reverse (steps_to s.mark (S.inputs p)))
  unfolding IsDistinct
  Walking-next lp roots keys after_keys listed all pending s p v is e puts =
      let falls = met-falls lp roots keys listed all s.node p v e in
      let w : Walking lp roots keys listed (pending ++ s ∷ []) = rw is at v in
      go w w.left refl falls
    where
      go : (w : Walking lp roots keys listed (pending ++ s ∷ [])) (left : ℕ) → w.left ≡ left → length listed < length lp → Walking lp roots after_keys (listed ++ s.node ∷ []) (pending ++ reverse (steps_to s.mark (S.inputs p)))
      go w zero l falls = absurd (omega (arith, l, w.count, w.fits, falls))
      go w (suc left) l falls =
          let new = new-in S lp (list_any (nat_eq s.node.0) keys) s.node p e in
          let apart : list_any (nat_eq s.node.0) w.met ≡ false = sym (w.marks s.node.0) ∙ new.1 in
          let next : walk_on S w.left lp w.met (reverse (pending ++ s ∷ [])) ≡ after s.node (walk_on S left lp (s.node.0 ∷ w.met) (steps_to s.mark (S.inputs p) ++ reverse pending)) =
          rw (reverse-push, l) (walk_on-next left lp w.met s (reverse pending) p (rw (w.marks s.node.0) at e)) in
          record {
            met = s.node.0 ∷ w.met;
            left = left;
            marks = λ k. puts k ∙ either s.node.0 k (list_any (nat_eq k) keys) (list_any (nat_eq k) w.met) (w.marks k);
            distinct = (all_differ s.node.0 w.met apart, w.distinct);
            low = λ k h. lower S lp s.node w.met k new.0 w.low h;
            count = omega (arith, w.count, length-append listed (s.node ∷ []));
            fits = omega (arith, l, w.fits);
            same = rw (reverse-append, reverse-reverse, append_assoc) (rw next at w.same);
          }
