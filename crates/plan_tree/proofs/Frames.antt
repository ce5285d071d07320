-- How rewrites of trees in an arena follow one another, stand side by side, and go up to the node above.
use Rattle.std.proofs.Common.{false, ◌≡◌, ℕ, zero, suc, ◌+◌, ◌<◌, ◌≤◌, List, [], ◌∷◌, ◌++◌, length, take, refl, ◌∙◌, ap, inl, inr, ◌⊎◌, arith, Some, add-one, max, length-set, length-append}
use Rattle.std.specs.List.{slice_get, slice_set}
use Rattle.std.proofs.lemmas.Option.{slice_get_within}
use Rattle.plan_core.specs.declared.arena.Node.{Node}
use Rattle.plan_tree.proofs.Numbers.{Reaches-within}
use Rattle.plan_tree.proofs.TreeLemmas.{nth, Opened, height_at, height-is, levels-nth, Stands-nth, IsOnce-nth, StandsOnce-nth}
use Rattle.plan_tree.specs.Rose.{Roses, rose, no_roses, more, levels, join}
use Rattle.plan_tree.specs.Stands.{Shape, Trees, Reaches, Apart, IsOnce, Stands, StandsOnce, Keeps, Rewrites}

module _ {P : Type 0} (S : Shape P) where
  -- the first j trees
  abbrev pub front : Trees P → ℕ → Trees P
  front no_roses j = no_roses
  front (more (rose n p kids) rest) zero = no_roses
  front (more (rose n p kids) rest) (suc j) = more (rose n p kids) (front rest j)

  pub Reaches-join : (f g : Trees P) (k : ℕ) → Reaches (join f g) k → Reaches f k ⊎ Reaches g k
  Reaches-join no_roses g k r = inr r
  Reaches-join (more (rose n p kids) rest) g k r =
      elim r as (λ _. Reaches (more (rose n p kids) rest) k ⊎ Reaches g k) [
        | inl e ↦ inl (inl e)
        | inr t ↦ elim t as (λ _. Reaches (more (rose n p kids) rest) k ⊎ Reaches g k) [
          | inl u ↦ inl (inr (inl u))
          | inr v ↦ elim (Reaches-join rest g k v) as (λ _. Reaches (more (rose n p kids) rest) k ⊎ Reaches g k) [
            | inl a ↦ inl (inr (inr a))
            | inr b ↦ inr b
          ]
        ]
      ]

  pub join-left : (f g : Trees P) (k : ℕ) → Reaches f k → Reaches (join f g) k
  join-left no_roses g k r = absurd r
  join-left (more (rose n p kids) rest) g k r =
      elim r as (λ _. Reaches (join (more (rose n p kids) rest) g) k) [
        | inl e ↦ inl e
        | inr t ↦ elim t as (λ _. Reaches (join (more (rose n p kids) rest) g) k) [ inl u ↦ inr (inl u) | inr v ↦ inr (inr (join-left rest g k v)) ]
      ]

  pub join-right : (f g : Trees P) (k : ℕ) → Reaches g k → Reaches (join f g) k
  join-right no_roses g k r = r
  join-right (more (rose n p kids) rest) g k r = inr (inr (join-right rest g k r))

  pub IsOnce-join : (f g : Trees P) → IsOnce f → IsOnce g → Apart f g → IsOnce (join f g)
  IsOnce-join no_roses g a b d = b
  IsOnce-join (more (rose n p kids) rest) g a b d = (
    a.0,
    (λ r. elim (Reaches-join rest g n.0 r) as (λ _. ⊥) [ inl u ↦ a.1 u | inr v ↦ d n.0 (inl refl) v ]),
    (λ k u v. elim (Reaches-join rest g k v) as (λ _. ⊥) [ inl w ↦ a.2 k u w | inr w ↦ d k (inr (inl u)) w ]),
    a.3,
    IsOnce-join rest g a.4 b (λ k u v. d k (inr (inr u)) v),
  )

  pub Stands-join : (lp : List P) (ns ms : List Node) (f g : Trees P) → Stands S lp ns f → Stands S lp ms g → Stands S lp (ns ++ ms) (join f g)
  Stands-join lp [] ms no_roses g a b = b
  Stands-join lp [] ms (more (rose n p kids) rest) g a b = absurd a
  Stands-join lp (m ∷ ns) ms no_roses g a b = absurd a
  Stands-join lp (m ∷ ns) ms (more (rose n p kids) rest) g a b = (a.0, a.1, a.2, a.3, Stands-join lp ns ms rest g a.4 b)

  -- trees stand on where no entry that they reach changed
  pub Stands-kept : (old new : List P) (ns : List Node) (f : Trees P) → Stands S old ns f → ((k : ℕ) → Reaches f k → slice_get new k ≡ slice_get old k) → Stands S new ns f
  Stands-kept old new [] no_roses s same = tt
  Stands-kept old new [] (more (rose n p kids) rest) s same = absurd s
  Stands-kept old new (m ∷ ns) no_roses s same = absurd s
  Stands-kept old new (m ∷ ns) (more (rose n p kids) rest) s same = (
    s.0,
    same m.0 (inl (ap (λ (x : Node). x.0) s.0)) ∙ s.1,
    s.2,
    Stands-kept old new (S.inputs p) kids s.3 (λ k r. same k (inr (inl r))),
    Stands-kept old new ns rest s.4 (λ k r. same k (inr (inr r))),
  )

  -- the first j trees and the tree at j are apart, and are the first j + 1
  pub front-part : (f : Trees P) (j k : ℕ) → Reaches (front f j) k → Reaches f k
  front-part no_roses j k r = r
  front-part (more (rose n p kids) rest) zero k r = absurd r
  front-part (more (rose n p kids) rest) (suc j) k r =
      elim r as (λ _. Reaches (more (rose n p kids) rest) k) [
        | inl e ↦ inl e
        | inr t ↦ elim t as (λ _. Reaches (more (rose n p kids) rest) k) [ inl u ↦ inr (inl u) | inr v ↦ inr (inr (front-part rest j k v)) ]
      ]

  pub nth-part : (f : Trees P) (j k : ℕ) → Reaches (nth S f j) k → Reaches f k
  nth-part no_roses j k r = r
  nth-part (more (rose n p kids) rest) zero k r =
      elim r as (λ _. Reaches (more (rose n p kids) rest) k) [
        | inl e ↦ inl e
        | inr t ↦ elim t as (λ _. Reaches (more (rose n p kids) rest) k) [ inl u ↦ inr (inl u) | inr v ↦ absurd v ]
      ]
  nth-part (more (rose n p kids) rest) (suc j) k r = inr (inr (nth-part rest j k r))

  pub front-nth-Apart : (f : Trees P) (j : ℕ) → IsOnce f → Apart (front f j) (nth S f j)
  front-nth-Apart no_roses j o k a b = a
  front-nth-Apart (more (rose n p kids) rest) zero o k a b = a
  front-nth-Apart (more (rose n p kids) rest) (suc j) o k a b =
      elim a as (λ _. ⊥) [
        | inl e ↦ o.1 (rw (← e) (nth-part rest j k b))
        | inr t ↦ elim t as (λ _. ⊥) [
          | inl u ↦ o.2 k u (nth-part rest j k b)
          | inr v ↦ front-nth-Apart rest j o.4 k v b
        ]
      ]

  -- the trees at the numbers before j, with that at j
  pub front-more : (lp : List P) (ns : List Node) (f : Trees P) (j : ℕ) → Stands S lp ns f → j < length ns → front f (suc j) ≡ join (front f j) (nth S f j)
  front-more lp [] f j s h = absurd (omega arith)
  front-more lp (m ∷ ns) no_roses j s h = absurd s
  front-more lp (m ∷ ns) (more (rose n p kids) no_roses) zero s h = refl
  front-more lp (m ∷ ns) (more (rose n p kids) (more (rose n2 p2 kids2) rest2)) zero s h = refl
  front-more lp (m ∷ ns) (more (rose n p kids) rest) (suc j) s h = ap (λ (x : Roses Node P). more (rose n p kids) x) (front-more lp ns rest j s.4 (omega arith))

  pub front-all : (lp : List P) (ns : List Node) (f : Trees P) (j : ℕ) → Stands S lp ns f → length ns ≤ j → front f j ≡ f
  front-all lp [] no_roses j s h = refl
  front-all lp [] (more (rose n p kids) rest) j s h = absurd s
  front-all lp (m ∷ ns) no_roses j s h = absurd s
  front-all lp (m ∷ ns) (more (rose n p kids) rest) zero s h = absurd (omega arith)
  front-all lp (m ∷ ns) (more (rose n p kids) rest) (suc j) s h = ap (λ (x : Roses Node P). more (rose n p kids) x) (front-all lp ns rest j s.4 (omega arith))

  pub front-none : (f : Trees P) → front f 0 ≡ no_roses
  front-none no_roses = refl
  front-none (more (rose n p kids) rest) = refl

  -- nothing done
  pub Rewrites-refl : (lp : List P) (ns : List Node) (f : Trees P) → StandsOnce S lp ns f → Rewrites S lp lp ns f f
  Rewrites-refl lp ns f h = record {
    stands = h;
    keeps = record { grows = omega arith; same = λ k a b. refl };
    within = λ k r. inl r;
  }

  -- one rewrite of the same trees after another
  pub Rewrites-trans : (a b c : List P) (ns : List Node) (f g h : Trees P) → Rewrites S a b ns f g → Rewrites S b c ns g h → Rewrites S a c ns f h
  Rewrites-trans a b c ns f g h x y = record {
    stands = y.stands;
    keeps = record {
      grows = omega (arith, x.keeps.grows, y.keeps.grows);
      same = λ k lt no. y.keeps.same k (omega (arith, x.keeps.grows)) (λ r. elim (x.within k r) as (λ _. ⊥) [ inl u ↦ no u | inr v ↦ absurd (omega arith) ]) ∙ x.keeps.same k lt no;
    };
    within = λ k r. elim (y.within k r) as (λ _. Reaches f k ⊎ (length a ≤ k)) [
      | inl u ↦ x.within k u
      | inr v ↦ inr (omega (arith, x.keeps.grows))
    ];
  }

  -- a rewrite of the tree at the next number, beside those before it
  pub Rewrites-next : (a b c : List P) (ns : List Node) (n : Node) (j : ℕ) (f g u : Trees P) → StandsOnce S a ns f → slice_get ns j ≡ Some n → take (j + 1) ns ≡ take j ns ++ n ∷ [] → Rewrites S a b (take j ns) (front f j) g → Rewrites S b c (n ∷ []) (nth S f j) u → Rewrites S a c (take (j + 1) ns) (front f (j + 1)) (join g u)
  Rewrites-next a b c ns n j f g u h e longer x y =
      let lt : j < length ns = slice_get_within ns j n e in
      let far : (k : ℕ) → Reaches g k → Reaches (nth S f j) k → ⊥ = λ k r s. elim (x.within k r) as (λ _. ⊥) [ inl v ↦ front-nth-Apart f j h.once k v s | inr v ↦ absurd (let w = Reaches-within S a ns f k h.stands (nth-part f j k s) in omega arith) ] in
      let low : (k : ℕ) → Reaches g k → k < length b = λ k r. Reaches-within S b (take j ns) g k x.stands.stands r in
      let apart : Apart g u = λ k r s. elim (y.within k s) as (λ _. ⊥) [ inl v ↦ far k r v | inr v ↦ absurd (let w = low k r in omega arith) ] in
      rw (longer, add-one, front-more a ns f j h.stands lt) (record {
        stands = record {
          stands = Stands-join c (take j ns) (n ∷ []) g u (Stands-kept b c (take j ns) g x.stands.stands (λ k r. y.keeps.same k (low k r) (far k r))) y.stands.stands;
          once = IsOnce-join g u x.stands.once y.stands.once apart;
        };
        keeps = record {
          grows = omega (arith, x.keeps.grows, y.keeps.grows);
          same = λ k small no. y.keeps.same k (omega (arith, x.keeps.grows)) (λ r. no (join-right (front f j) (nth S f j) k r)) ∙ x.keeps.same k small (λ r. no (join-left (front f j) (nth S f j) k r));
        };
        within = λ k r. elim (Reaches-join g u k r) as (λ _. Reaches (join (front f j) (nth S f j)) k ⊎ (length a ≤ k)) [
          | inl v ↦ elim (x.within k v) as (λ _. Reaches (join (front f j) (nth S f j)) k ⊎ (length a ≤ k)) [ inl w ↦ inl (join-left (front f j) (nth S f j) k w) | inr w ↦ inr w ]
          | inr v ↦ elim (y.within k v) as (λ _. Reaches (join (front f j) (nth S f j)) k ⊎ (length a ≤ k)) [ inl w ↦ inl (join-right (front f j) (nth S f j) k w) | inr w ↦ inr (omega (arith, x.keeps.grows)) ]
        ];
      })

  -- reads of a list after a write and an append
  pub slice_get-set_same : {X : Type 0} (xs : List X) (i : ℕ) (y : X) → i < length xs → slice_get (slice_set xs i y) i ≡ Some y
  slice_get-set_same [] i y h = absurd (omega arith)
  slice_get-set_same (x ∷ xs) zero y h = refl
  slice_get-set_same (x ∷ xs) (suc i) y h = slice_get-set_same xs i y (omega arith)

  pub slice_get-set_other : {X : Type 0} (xs : List X) (i k : ℕ) (y : X) → (k ≡ i → ⊥) → slice_get (slice_set xs i y) k ≡ slice_get xs k
  slice_get-set_other [] i k y ne = refl
  slice_get-set_other (x ∷ xs) zero zero y ne = absurd (ne refl)
  slice_get-set_other (x ∷ xs) zero (suc k) y ne = refl
  slice_get-set_other (x ∷ xs) (suc i) zero y ne = refl
  slice_get-set_other (x ∷ xs) (suc i) (suc k) y ne = slice_get-set_other xs i k y (λ e. ne (ap suc e))

  pub slice_get-append : {X : Type 0} (xs ys : List X) (k : ℕ) → k < length xs → slice_get (xs ++ ys) k ≡ slice_get xs k
  slice_get-append [] ys k h = absurd (omega arith)
  slice_get-append (x ∷ xs) ys zero h = refl
  slice_get-append (x ∷ xs) ys (suc k) h = slice_get-append xs ys k (omega arith)

  pub slice_get-append_last : {X : Type 0} (xs : List X) (y : X) → slice_get (xs ++ y ∷ []) (length xs) ≡ Some y
  slice_get-append_last [] y = refl
  slice_get-append_last (x ∷ xs) y = slice_get-append_last xs y

  -- entries kept by one step and then by another, which changes only what the first could and what it added
  pub Keeps-trans : (a b c : List P) (f g : Trees P) → Keeps a b f → Keeps b c g → ((k : ℕ) → Reaches g k → Reaches f k ⊎ (length a ≤ k)) → Keeps a c f
  Keeps-trans a b c f g x y part = record {
    grows = omega (arith, x.grows, y.grows);
    same = λ k lt no. y.same k (omega (arith, x.grows)) (λ r. elim (part k r) as (λ _. ⊥) [ inl u ↦ no u | inr v ↦ absurd (omega arith) ]) ∙ x.same k lt no;
  }

  -- an entry that the trees reach is written
  pub Keeps-set : (a : List P) (i : ℕ) (q : P) (f : Trees P) → Reaches f i → Keeps a (slice_set a i q) f
  Keeps-set a i q f r = record {
    grows = omega (arith, length-set a i q);
    same = λ k lt no. slice_get-set_other a i k q (λ e. no (rw e r));
  }

  pub Keeps-append : (a : List P) (q : P) (f : Trees P) → Keeps a (a ++ q ∷ []) f
  Keeps-append a q f = record {
    grows = omega (arith, length-append a (q ∷ []));
    same = λ k lt no. slice_get-append a (q ∷ []) k lt;
  }

  -- trees stand on where an entry that they don't reach is written
  pub StandsOnce-set : (a : List P) (ns : List Node) (f : Trees P) (i : ℕ) (q : P) → StandsOnce S a ns f → (Reaches f i → ⊥) → StandsOnce S (slice_set a i q) ns f
  StandsOnce-set a ns f i q h away = record {
    stands = Stands-kept a (slice_set a i q) ns f h.stands (λ k r. slice_get-set_other a i k q (λ e. away (rw (← e) r)));
    once = h.once;
  }

  -- a node is written over rewritten trees
  pub Rewrites-above : (a b : List P) (n : Node) (p q : P) (kids below : Trees P) → StandsOnce S a (n ∷ []) (more (rose n p kids) no_roses) → Keeps a b (more (rose n p kids) no_roses) → StandsOnce S b (S.inputs q) below → ((k : ℕ) → Reaches below k → Reaches kids k ⊎ (length a ≤ k)) → (S.bad q ≡ false) → Rewrites S a (slice_set b n.0 q) (n ∷ []) (more (rose n p kids) no_roses) (more (rose n q below) no_roses)
  Rewrites-above a b n p q kids below h keeps stands part valid =
      let small : n.0 < length a = slice_get_within a n.0 p h.stands.1 in
      let no : Reaches below n.0 → ⊥ = λ r. elim (part n.0 r) as (λ _. ⊥) [ inl u ↦ h.once.0 u | inr v ↦ absurd (omega arith) ] in
      let s = StandsOnce-set b (S.inputs q) below n.0 q stands no in
      record {
        stands = record {
          stands = (refl, slice_get-set_same b n.0 q (omega (arith, keeps.grows)), valid, s.stands, tt);
          once = (no, (λ r. r), (λ k u v. v), s.once, tt);
        };
        keeps = Keeps-trans a b (slice_set b n.0 q) (more (rose n p kids) no_roses) (more (rose n p kids) no_roses) keeps (Keeps-set b n.0 q (more (rose n p kids) no_roses) (inl refl)) (λ k r. inl r);
        within = λ k r. elim r as (λ _. Reaches (more (rose n p kids) no_roses) k ⊎ (length a ≤ k)) [
          | inl e ↦ inl (inl e)
          | inr t ↦ elim t as (λ _. Reaches (more (rose n p kids) no_roses) k ⊎ (length a ≤ k)) [
            | inl u ↦ elim (part k u) as (λ _. Reaches (more (rose n p kids) no_roses) k ⊎ (length a ≤ k)) [ inl w ↦ inl (inr (inl w)) | inr w ↦ inr w ]
            | inr v ↦ absurd v
          ]
        ];
      }

  -- what stays of the trees below, once the node above is taken
  pub StandsOnce-taken : (a : List P) (n : Node) (p d : P) (kids : Trees P) → StandsOnce S a (n ∷ []) (more (rose n p kids) no_roses) → StandsOnce S (slice_set a n.0 d) (S.inputs p) kids
  StandsOnce-taken a n p d kids h = StandsOnce-set a (S.inputs p) kids n.0 d (record { stands = h.stands.3; once = h.once.3 }) h.once.0

  -- a node is taken, the trees below it are rewritten, and it is put back over the same inputs
  pub Rewrites-back : (a b c : List P) (n : Node) (p q d : P) (kids below : Trees P) → StandsOnce S a (n ∷ []) (more (rose n p kids) no_roses) → b ≡ slice_set a n.0 d → Rewrites S b c (S.inputs p) kids below → S.inputs q ≡ S.inputs p → (S.bad q ≡ false) → Rewrites S a (slice_set c n.0 q) (n ∷ []) (more (rose n p kids) no_roses) (more (rose n q below) no_roses)
  Rewrites-back a b c n p q d kids below h taken x same valid =
      let long : length b ≡ length a = rw taken (length-set a n.0 d) in
      Rewrites-above a c n p q kids below h
      (Keeps-trans a b c (more (rose n p kids) no_roses) kids (rw taken (Keeps-set a n.0 d (more (rose n p kids) no_roses) (inl refl))) x.keeps (λ k r. inl (inr (inl r))))
      (rw same x.stands)
      (λ k r. elim (x.within k r) as (λ _. Reaches kids k ⊎ (length a ≤ k)) [ inl u ↦ inl u | inr v ↦ inr (omega arith) ])
      valid

  -- the tree at the next number still stands after those before it were rewritten
  pub StandsOnce-next : (a b : List P) (ns : List Node) (n : Node) (j : ℕ) (f g : Trees P) → StandsOnce S a ns f → slice_get ns j ≡ Some n → Rewrites S a b (take j ns) (front f j) g → StandsOnce S b (n ∷ []) (nth S f j)
  StandsOnce-next a b ns n j f g h e x = record {
    stands = Stands-kept a b (n ∷ []) (nth S f j) (Stands-nth S a ns f j n h.stands e) (λ k r. x.keeps.same k (Reaches-within S a ns f k h.stands (nth-part f j k r)) (λ s. front-nth-Apart f j h.once k s r));
    once = IsOnce-nth S f j h.once;
  }

  -- a walk that goes down from a number's tree to the tree of an input, in an arena where that stands
  pub descend : (a b : List P) (n i : Node) (p : P) (t : Trees P) (j : ℕ) → StandsOnce S a (n ∷ []) t → (o : Opened S a n p t) → StandsOnce S b (i ∷ []) (nth S o.kids j) → height_at S b i < height_at S a n
  descend a b n i p t j h o s =
      let low : height_at S b i ≡ levels (nth S o.kids j) = height-is S b i (nth S o.kids j) s in
      let high : height_at S a n ≡ levels t = height-is S a n t h in
      let top : levels t ≡ max (1 + levels o.kids) 0 = ap levels o.is in
      omega (arith, levels-nth S o.kids j)

  -- the tree of an input, once the node above is taken
  pub StandsOnce-first : (a b : List P) (n i : Node) (p d : P) (t : Trees P) (j : ℕ) (o : Opened S a n p t) → b ≡ slice_set a n.0 d → slice_get (S.inputs p) j ≡ Some i → StandsOnce S b (i ∷ []) (nth S o.kids j)
  StandsOnce-first a b n i p d t j o taken e = rw taken (StandsOnce-nth S (slice_set a n.0 d) (S.inputs p) o.kids j i (StandsOnce-set a (S.inputs p) o.kids n.0 d o.inputs o.above) e)
