-- The numbers and entries of trees over an arena: the labels are distinct, and are what the trees reach.
use Rattle.std.proofs.Common.{◌≡◌, ◌↔◌, ℕ, ◌<◌, ◌≤◌, Bool, true, false, ◌||◌, List, [], ◌∷◌, ◌++◌, length, map, refl, sym, ◌∙◌, ap, inl, inr, ◌⊎◌, arith, length-append, Some}
use Rattle.std.specs.Bool.{nat_eq}
use Rattle.std.specs.List.{list_any, IsDistinct, AllByRecursion, slice_get}
use Rattle.std.proofs.lemmas.List.{map-append, length-map}
use Rattle.std.proofs.lemmas.List.Folds.{list_any-append}
use Rattle.std.proofs.lemmas.Option.{slice_get_within}
use Rattle.std.proofs.lemmas.Map.Steps.{length-le_from_distinct_below}
use Rattle.std.proofs.lemmas.Bool.{eqb-true, eq-eqb}
use Rattle.std.proofs.lemmas.Bool.Decides.{eqb_tells}
use Rattle.plan_core.specs.declared.arena.Node.{Node}
use Rattle.plan_tree.specs.Rose.{rose, no_roses, more, size, labels, items}
use Rattle.plan_tree.specs.Stands.{Shape, Trees, numbers, Reaches, IsOnce, Stands, StandsOnce}

or_cases : (a b : Bool) → (a || b) ≡ true → (a ≡ true) ⊎ (b ≡ true)
or_cases true b h = inl refl
or_cases false b h = inr h

or_left : (a b : Bool) → a ≡ true → (a || b) ≡ true
or_left true b h = refl
or_left false b h = cc

or_right : (a b : Bool) → b ≡ true → (a || b) ≡ true
or_right true b h = refl
or_right false b h = h

pub differ-from_nat_eq : (x y : ℕ) → nat_eq x y ≡ false → x ≡ y → ⊥
differ-from_nat_eq x y h e = elim (eqb_tells x y) as (λ _. ⊥) [ inl a ↦ (let u = a.0 in cc) | inr b ↦ b.1 e ]

pub nat_eq-from_differ : (x y : ℕ) → (x ≡ y → ⊥) → nat_eq x y ≡ false
nat_eq-from_differ x y h = elim (eqb_tells x y) as (λ _. nat_eq x y ≡ false) [ inl a ↦ absurd (h a.1) | inr b ↦ b.0 ]

all_append : (P : ℕ → Type 0) (xs ys : List ℕ) → AllByRecursion P xs → AllByRecursion P ys → AllByRecursion P (xs ++ ys)
all_append P [] ys a b = b
all_append P (x ∷ xs) ys a b = (a.0, all_append P xs ys a.1 b)

distinct_append : (xs ys : List ℕ) → IsDistinct nat_eq xs → IsDistinct nat_eq ys → ((k : ℕ) → list_any (nat_eq k) xs ≡ true → AllByRecursion (λ y. nat_eq k y ≡ false) ys) → IsDistinct nat_eq (xs ++ ys)
unfolding IsDistinct
distinct_append [] ys dx dy far = dy
distinct_append (x ∷ xs) ys dx dy far = (
  all_append (λ y. nat_eq x y ≡ false) xs ys dx.0 (far x (rw (eq-eqb x x refl) refl)),
  distinct_append xs ys dx.1 dy (λ k m. far k (or_right (nat_eq k x) (list_any (nat_eq k) xs) m)),
)

pub numbers-append : (ns ms : List Node) → numbers (ns ++ ms) ≡ numbers ns ++ numbers ms
numbers-append ns ms = map-append (λ (n : Node). n.0) ns ms

module _ {P : Type 0} where
  -- trees reach the numbers of their labels
  pub Reaches-from_labels : (f : Trees P) (k : ℕ) → list_any (nat_eq k) (numbers (labels f)) ≡ true → Reaches f k
  Reaches-from_labels no_roses k h = cc
  Reaches-from_labels (more (rose n p kids) rest) k h =
      let e : list_any (nat_eq k) (numbers (labels kids ++ labels rest)) ≡ (list_any (nat_eq k) (numbers (labels kids)) || list_any (nat_eq k) (numbers (labels rest))) = rw numbers-append (list_any-append (nat_eq k) (numbers (labels kids)) (numbers (labels rest))) in
      elim (or_cases (nat_eq k n.0) (list_any (nat_eq k) (numbers (labels kids ++ labels rest))) h) as (λ _. Reaches (more (rose n p kids) rest) k) [
        | inl a ↦ inl (eqb-true k n.0 a)
        | inr b ↦ elim (or_cases (list_any (nat_eq k) (numbers (labels kids))) (list_any (nat_eq k) (numbers (labels rest))) (sym e ∙ b)) as (λ _. Reaches (more (rose n p kids) rest) k) [
          | inl u ↦ inr (inl (Reaches-from_labels kids k u))
          | inr v ↦ inr (inr (Reaches-from_labels rest k v))
        ]
      ]

  -- and no other number
  pub labels-from_Reaches : (f : Trees P) (k : ℕ) → Reaches f k → list_any (nat_eq k) (numbers (labels f)) ≡ true
  labels-from_Reaches no_roses k r = absurd r
  labels-from_Reaches (more (rose n p kids) rest) k r =
      let e : list_any (nat_eq k) (numbers (labels kids ++ labels rest)) ≡ (list_any (nat_eq k) (numbers (labels kids)) || list_any (nat_eq k) (numbers (labels rest))) = rw numbers-append (list_any-append (nat_eq k) (numbers (labels kids)) (numbers (labels rest))) in
      elim r as (λ _. (nat_eq k n.0 || list_any (nat_eq k) (numbers (labels kids ++ labels rest))) ≡ true) [
        | inl a ↦ or_left (nat_eq k n.0) (list_any (nat_eq k) (numbers (labels kids ++ labels rest))) (eq-eqb k n.0 a)
        | inr t ↦ or_right (nat_eq k n.0) (list_any (nat_eq k) (numbers (labels kids ++ labels rest))) (e ∙ (elim t as (λ _. (list_any (nat_eq k) (numbers (labels kids)) || list_any (nat_eq k) (numbers (labels rest))) ≡ true) [
          | inl u ↦ or_left (list_any (nat_eq k) (numbers (labels kids))) (list_any (nat_eq k) (numbers (labels rest))) (labels-from_Reaches kids k u)
          | inr v ↦ or_right (list_any (nat_eq k) (numbers (labels kids))) (list_any (nat_eq k) (numbers (labels rest))) (labels-from_Reaches rest k v)
        ]))
      ]

  pub Reaches-labels : (f : Trees P) (k : ℕ) → Reaches f k ↔ (list_any (nat_eq k) (numbers (labels f)) ≡ true)
  Reaches-labels f k = (labels-from_Reaches f k, Reaches-from_labels f k)

  all_differ : (x : ℕ) (f : Trees P) → (Reaches f x → ⊥) → AllByRecursion (λ y. nat_eq x y ≡ false) (numbers (labels f))
  all_differ x no_roses h = tt
  all_differ x (more (rose n p kids) rest) h = (
    nat_eq-from_differ x n.0 (λ e. h (inl e)),
    rw (numbers-append (labels kids) (labels rest)) (all_append (λ y. nat_eq x y ≡ false) (numbers (labels kids)) (numbers (labels rest)) (all_differ x kids (λ r. h (inr (inl r)))) (all_differ x rest (λ r. h (inr (inr r))))),
  )

  -- no label stands twice in trees that have no number twice
  pub IsDistinct-labels : (f : Trees P) → IsOnce f → IsDistinct nat_eq (numbers (labels f))
  unfolding IsDistinct
  IsDistinct-labels no_roses o = tt
  IsDistinct-labels (more (rose n p kids) rest) o = (
    rw (numbers-append (labels kids) (labels rest)) (all_append (λ y. nat_eq n.0 y ≡ false) (numbers (labels kids)) (numbers (labels rest)) (all_differ n.0 kids o.0) (all_differ n.0 rest o.1)),
    rw (numbers-append (labels kids) (labels rest)) (distinct_append (numbers (labels kids)) (numbers (labels rest)) (IsDistinct-labels kids o.3) (IsDistinct-labels rest o.4)
        (λ k m. all_differ k rest (λ r. o.2 k (Reaches-from_labels kids k m) r))),
  )

  pub length-labels : (f : Trees P) → length (labels f) ≡ size f
  length-labels no_roses = refl
  length-labels (more (rose n p kids) rest) = omega (arith, length-append (labels kids) (labels rest), length-labels kids, length-labels rest)

  pub length-items : (f : Trees P) → length (items f) ≡ size f
  length-items no_roses = refl
  length-items (more (rose n p kids) rest) = omega (arith, length-append (items kids) (items rest), length-items kids, length-items rest)

module _ {P : Type 0} (S : Shape P) where
  -- a number that is reached has an entry, and that can stand in a tree
  pub record Entered (lp : List P) (k : ℕ) : Type 0 where
    pub entry : P
    pub is : slice_get lp k ≡ Some entry
    pub valid : S.bad entry ≡ false

  pub Reaches-entered : (lp : List P) (ns : List Node) (f : Trees P) (k : ℕ) → Stands S lp ns f → Reaches f k → Entered lp k
  Reaches-entered lp [] no_roses k s r = absurd r
  Reaches-entered lp [] (more (rose n p kids) rest) k s r = absurd s
  Reaches-entered lp (m ∷ ns) no_roses k s r = absurd s
  Reaches-entered lp (m ∷ ns) (more (rose n p kids) rest) k s r =
      elim r as (λ _. Entered lp k) [
        | inl e ↦ record { entry = p; is = ap (slice_get lp) (e ∙ sym (ap (λ (x : Node). x.0) s.0)) ∙ s.1; valid = s.2 }
        | inr t ↦ elim t as (λ _. Entered lp k) [
          | inl u ↦ Reaches-entered lp (S.inputs p) kids k s.3 u
          | inr v ↦ Reaches-entered lp ns rest k s.4 v
        ]
      ]

  -- each number that is reached is in the arena
  pub Reaches-within : (lp : List P) (ns : List Node) (f : Trees P) (k : ℕ) → Stands S lp ns f → Reaches f k → k < length lp
  Reaches-within lp ns f k s r = let e = Reaches-entered lp ns f k s r in slice_get_within lp k e.entry e.is

  -- trees that stand over an arena have no more nodes than it has entries
  pub size-le : (lp : List P) (ns : List Node) (f : Trees P) → StandsOnce S lp ns f → size f ≤ length lp
  size-le lp ns f h =
      rw (← length-labels f, ← length-map (labels f) (λ (n : Node). n.0)) (length-le_from_distinct_below (numbers (labels f)) (length lp) (IsDistinct-labels f h.once) (λ k m. Reaches-within lp ns f k h.stands (Reaches-from_labels f k m)))

  -- the items of trees are the entries at their labels
  pub entries-items : (lp : List P) (ns : List Node) (f : Trees P) → Stands S lp ns f → map (λ n. slice_get lp n.0) (labels f) ≡ map Some (items f)
  entries-items lp [] no_roses s = refl
  entries-items lp [] (more (rose n p kids) rest) s = absurd s
  entries-items lp (m ∷ ns) no_roses s = absurd s
  entries-items lp (m ∷ ns) (more (rose n p kids) rest) s =
      let here : slice_get lp n.0 ≡ Some p = rw (← s.0) s.1 in
      rw (map-append (λ (n : Node). slice_get lp n.0) (labels kids) (labels rest), map-append (λ (q : P). Some q) (items kids) (items rest), here, entries-items lp (S.inputs p) kids s.3, entries-items lp ns rest s.4) refl
