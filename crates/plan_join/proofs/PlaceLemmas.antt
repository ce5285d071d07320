-- Places below a height: those that pass a test, what is said of each, and marks.
use Rattle.std.proofs.Common.{◌≡◌, ◌∙◌, ◌++◌, ◌+◌, ◌<◌, ◌≤◌, ◌||◌, ◌⊎◌, inl, inr, ℕ, zero, suc, Bool, true, false, cond, List, [], ◌∷◌, map, length, replicate, set, refl, sym, ap, ap₂, get_or, arith, length-set, append-nil}
use Rattle.std.specs.Prelude.{nat_eq}
use Rattle.std.specs.List.{filter as only_where, flat_map, list_any, range_with_len}
use Rattle.std.proofs.Math.Bool.{or-false}
use Rattle.std.proofs.lemmas.Bool.{cases_eq, eq-eqb, eqb-true}
use Rattle.std.proofs.lemmas.Grind.{flat_map-append}
use Rattle.std.proofs.lemmas.List.{ext_get_or, get_or-set_other, get_or-set_same, map-append, map-id}
use Rattle.std.proofs.lemmas.List.Elements.{filter-append}
use Rattle.std.proofs.lemmas.List.FromFn.{get_or-map-range_with_len, length-map-range_with_len, map-range_with_len_more}
use Rattle.std.proofs.lemmas.List.Folds.{list_any-append}
use Rattle.plan_join.specs.Pairs.{passing}
use Rattle.plan_join.specs.Given.{is_any, marked}

-- functions that are the same at each of so many places

module _ {X : Type 0} (f g : ℕ → X) where
  same_map : (a n : ℕ) → ((i : ℕ) → a ≤ i → i < a + n → f i ≡ g i) → map f (range_with_len a n) ≡ map g (range_with_len a n)
  same_map a zero h = refl
  same_map a (suc n) h = ap₂ (λ (x : X) (xs : List X). x ∷ xs) (h a (omega arith) (omega arith)) (same_map (a + 1) n (λ i from below. h i (omega (arith, from)) (omega (arith, below))))

  pub map-below : (n : ℕ) → ((i : ℕ) → i < n → f i ≡ g i) → map f (range_with_len 0 n) ≡ map g (range_with_len 0 n)
  map-below n h = same_map 0 n (λ i from below. h i (omega (arith, below)))

module _ {X : Type 0} (f g : ℕ → List X) where
  same_flat : (a n : ℕ) → ((i : ℕ) → a ≤ i → i < a + n → f i ≡ g i) → flat_map f (range_with_len a n) ≡ flat_map g (range_with_len a n)
  same_flat a zero h = refl
  same_flat a (suc n) h = ap₂ (λ (xs ys : List X). xs ++ ys) (h a (omega arith) (omega arith)) (same_flat (a + 1) n (λ i from below. h i (omega (arith, from)) (omega (arith, below))))

  pub flat-below : (n : ℕ) → ((i : ℕ) → i < n → f i ≡ g i) → flat_map f (range_with_len 0 n) ≡ flat_map g (range_with_len 0 n)
  flat-below n h = same_flat 0 n (λ i from below. h i (omega (arith, below)))

module _ (p q : ℕ → Bool) where
  same_passing : (a n : ℕ) → ((i : ℕ) → a ≤ i → i < a + n → p i ≡ q i) → only_where p (range_with_len a n) ≡ only_where q (range_with_len a n)
  same_passing a zero h = refl
  same_passing a (suc n) h = ap₂ (λ (b : Bool) (xs : List ℕ). cond b (a ∷ xs) xs) (h a (omega arith) (omega arith)) (same_passing (a + 1) n (λ i from below. h i (omega (arith, from)) (omega (arith, below))))

  pub passing-below : (n : ℕ) → ((i : ℕ) → i < n → p i ≡ q i) → passing p n ≡ passing q n
  passing-below n h = same_passing 0 n (λ i from below. h i (omega (arith, below)))

-- nothing passes a test that nothing passes
pub passing-none : (p : ℕ → Bool) (xs : List ℕ) → ((i : ℕ) → p i ≡ false) → only_where p xs ≡ []
passing-none p [] h = refl
passing-none p (x ∷ xs) h = ap (λ (b : Bool). cond b (x ∷ only_where p xs) (only_where p xs)) (h x) ∙ passing-none p xs h

-- something passes where there is something that does
pub any-passing : (p : ℕ → Bool) (xs : List ℕ) → is_any (only_where p xs) ≡ list_any p xs
any-passing p [] = refl
any-passing p (x ∷ xs) = at (any-passing p xs) (p x)
  where
    at : is_any (only_where p xs) ≡ list_any p xs → (b : Bool) → is_any (cond b (x ∷ only_where p xs) (only_where p xs)) ≡ (b || list_any p xs)
    at rest true = refl
    at rest false = rest

-- a number among places

first_or_later : (a j : ℕ) → a ≤ j → (j ≡ a) ⊎ (a + 1 ≤ j)
first_or_later a j from = elim (cases_eq j a) as (λ _. (j ≡ a) ⊎ (a + 1 ≤ j)) [ inl e ↦ inl e | inr differ ↦ inr (omega (arith, from, differ)) ]

same_number : (j a : ℕ) → j ≡ a → nat_eq j a ≡ true
same_number j a e = eq-eqb j a e

other_number : (j a : ℕ) → (j ≡ a → ⊥) → nat_eq j a ≡ false
other_number j a differ = at (nat_eq j a) refl
  where
    at : (b : Bool) → nat_eq j a ≡ b → b ≡ false
    at true e = absurd (differ (eqb-true j a e))
    at false e = refl

among_none : (p : ℕ → Bool) (a n j : ℕ) → j < a → list_any (nat_eq j) (only_where p (range_with_len a n)) ≡ false
among_none p a zero j lt = refl
among_none p a (suc n) j lt = at (among_none p (a + 1) n j (omega (arith, lt))) (p a)
  where
    at : list_any (nat_eq j) (only_where p (range_with_len (a + 1) n)) ≡ false → (b : Bool) → list_any (nat_eq j) (cond b (a ∷ only_where p (range_with_len (a + 1) n)) (only_where p (range_with_len (a + 1) n))) ≡ false
    at later true = ap₂ (λ (x y : Bool). x || y) (other_number j a (λ e. omega (arith, e, lt))) later
    at later false = later

among_from : (p : ℕ → Bool) (a n j : ℕ) → a ≤ j → j < a + n → list_any (nat_eq j) (only_where p (range_with_len a n)) ≡ p j
among_from p a zero j from below = absurd (omega (arith, from, below))
among_from p a (suc n) j from below = elim (first_or_later a j from) as (λ _. list_any (nat_eq j) (only_where p (range_with_len a (suc n))) ≡ p j) [
  | inl e ↦ first e (p a) refl
  | inr later ↦ next (among_from p (a + 1) n j later (omega (arith, below))) later (p a)
]
  where
    first : j ≡ a → (b : Bool) → p a ≡ b → list_any (nat_eq j) (cond b (a ∷ only_where p (range_with_len (a + 1) n)) (only_where p (range_with_len (a + 1) n))) ≡ p j
    first e true q = ap (λ (x : Bool). x || list_any (nat_eq j) (only_where p (range_with_len (a + 1) n))) (same_number j a e) ∙ sym (ap p e ∙ q)
    first e false q = among_none p (a + 1) n j (omega (arith, e)) ∙ sym (ap p e ∙ q)

    next : list_any (nat_eq j) (only_where p (range_with_len (a + 1) n)) ≡ p j → a + 1 ≤ j → (b : Bool) → list_any (nat_eq j) (cond b (a ∷ only_where p (range_with_len (a + 1) n)) (only_where p (range_with_len (a + 1) n))) ≡ p j
    next by later true = ap₂ (λ (x y : Bool). x || y) (other_number j a (λ e. omega (arith, e, later))) by
    next by later false = by

-- a place is among those that pass exactly where it does
pub among : (p : ℕ → Bool) (n j : ℕ) → j < n → list_any (nat_eq j) (passing p n) ≡ p j
among p n j below = among_from p 0 n j (omega arith) (omega (arith, below))

-- tests that are the same below a height

module _ (p q : ℕ → Bool) where
  any_from : (a n : ℕ) → ((i : ℕ) → a ≤ i → i < a + n → p i ≡ q i) → list_any p (range_with_len a n) ≡ list_any q (range_with_len a n)
  any_from a zero h = refl
  any_from a (suc n) h = ap₂ (λ (x y : Bool). x || y) (h a (omega arith) (omega arith)) (any_from (a + 1) n (λ i from below. h i (omega (arith, from)) (omega (arith, below))))

  pub any-below : (n : ℕ) → ((i : ℕ) → i < n → p i ≡ q i) → list_any p (range_with_len 0 n) ≡ list_any q (range_with_len 0 n)
  any-below n h = any_from 0 n (λ i from below. h i (omega (arith, below)))

-- one place more
pub range-next : (n : ℕ) → range_with_len 0 (n + 1) ≡ range_with_len 0 n ++ n ∷ []
range-next n = sym (map-id (range_with_len 0 (n + 1))) ∙ map-range_with_len_more (λ i. i) 0 n n (omega arith) ∙ ap (λ (is : List ℕ). is ++ n ∷ []) (map-id (range_with_len 0 n))

pub any-next : (p : ℕ → Bool) (n : ℕ) → list_any p (range_with_len 0 (n + 1)) ≡ (list_any p (range_with_len 0 n) || p n)
any-next p n = ap (list_any p) (range-next n) ∙ list_any-append p (range_with_len 0 n) (n ∷ []) ∙ ap (λ (b : Bool). list_any p (range_with_len 0 n) || b) (or-false (p n))

pub flat-next : {X : Type 0} (f : ℕ → List X) (n : ℕ) → flat_map f (range_with_len 0 (n + 1)) ≡ flat_map f (range_with_len 0 n) ++ f n
flat-next {X = X} f n = ap (flat_map f) (range-next n) ∙ flat_map-append f (range_with_len 0 n) (n ∷ []) ∙ ap (λ (ys : List X). flat_map f (range_with_len 0 n) ++ ys) (append-nil (f n))

-- where the next place passes, it is there too
pub passing-more : {X : Type 0} (f : ℕ → X) (p : ℕ → Bool) (n : ℕ) → p n ≡ true → map f (passing p (n + 1)) ≡ map f (passing p n) ++ f n ∷ []
passing-more f p n e = ap (map f) (ap (only_where p) (range-next n) ∙ filter-append p (range_with_len 0 n) (n ∷ []) ∙ ap (λ (b : Bool). passing p n ++ cond b (n ∷ []) []) e) ∙ map-append f (passing p n) (n ∷ [])

-- and where it doesn't, it isn't
pub passing-less : {X : Type 0} (f : ℕ → X) (p : ℕ → Bool) (n : ℕ) → p n ≡ false → map f (passing p (n + 1)) ≡ map f (passing p n)
passing-less f p n e = ap (map f) (ap (only_where p) (range-next n) ∙ filter-append p (range_with_len 0 n) (n ∷ []) ∙ ap (λ (b : Bool). passing p n ++ cond b (n ∷ []) []) e ∙ append-nil (passing p n))

-- marks

mark_at : (bs : List Bool) (js : List ℕ) (i : ℕ) → i < length bs → get_or (marked bs js) i false ≡ (get_or bs i false || list_any (nat_eq i) js)
mark_at bs js i below = get_or-map-range_with_len (λ j. get_or bs j false || list_any (nat_eq j) js) 0 (length bs) i i false below (omega arith)

pub long : (bs : List Bool) (js : List ℕ) → length (marked bs js) ≡ length bs
long bs js = length-map-range_with_len (λ j. get_or bs j false || list_any (nat_eq j) js) 0 (length bs)

-- no mark is set
pub marked-none : (bs : List Bool) → bs ≡ marked bs []
marked-none bs = ext_get_or false bs (marked bs []) (sym (long bs [])) (λ i below. sym (or-false (get_or bs i false)) ∙ sym (mark_at bs [] i below))

-- one more is set
pub marked-more : (bs : List Bool) (js : List ℕ) (x : ℕ) → x < length bs → set (marked bs js) x true ≡ marked bs (js ++ x ∷ [])
marked-more bs js x lt =
    ext_get_or false (set (marked bs js) x true) (marked bs (js ++ x ∷ [])) (length-set (marked bs js) x true ∙ long bs js ∙ sym (long bs (js ++ x ∷ [])))
    (λ i low. each i (omega (arith, low, length-set (marked bs js) x true, long bs js)))
  where
    more : (i : ℕ) → list_any (nat_eq i) (js ++ x ∷ []) ≡ (list_any (nat_eq i) js || nat_eq i x)
    more i = list_any-append (nat_eq i) js (x ∷ []) ∙ ap (λ (b : Bool). list_any (nat_eq i) js || b) (or-false (nat_eq i x))

    or_true : (a b : Bool) → (a || (b || true)) ≡ true
    or_true true b = refl
    or_true false true = refl
    or_true false false = refl

    each : (i : ℕ) → i < length bs → get_or (set (marked bs js) x true) i false ≡ get_or (marked bs (js ++ x ∷ [])) i false
    each i below = elim (cases_eq i x) as (λ _. get_or (set (marked bs js) x true) i false ≡ get_or (marked bs (js ++ x ∷ [])) i false) [
      | inl e ↦ ap (λ (k : ℕ). get_or (set (marked bs js) x true) k false) e
          ∙ get_or-set_same (marked bs js) x true false (omega (arith, lt, long bs js))
          ∙ sym (mark_at bs (js ++ x ∷ []) i below ∙ ap (λ (b : Bool). get_or bs i false || b) (more i ∙ ap (λ (b : Bool). list_any (nat_eq i) js || b) (same_number i x e)) ∙ or_true (get_or bs i false) (list_any (nat_eq i) js))
      | inr differ ↦ get_or-set_other (marked bs js) x i true false differ
          ∙ mark_at bs js i below
          ∙ sym (mark_at bs (js ++ x ∷ []) i below ∙ ap (λ (b : Bool). get_or bs i false || b) (more i ∙ ap (λ (b : Bool). list_any (nat_eq i) js || b) (other_number i x differ) ∙ or-false (list_any (nat_eq i) js)))
    ]

-- and none beyond them
pub marked-past : (bs : List Bool) (js : List ℕ) (x : ℕ) → length bs ≤ x → marked bs js ≡ marked bs (js ++ x ∷ [])
marked-past bs js x le = map-below (λ j. get_or bs j false || list_any (nat_eq j) js) (λ j. get_or bs j false || list_any (nat_eq j) (js ++ x ∷ [])) (length bs)
    (λ i below. ap (λ (b : Bool). get_or bs i false || b) (sym (list_any-append (nat_eq i) js (x ∷ []) ∙ ap (λ (b : Bool). list_any (nat_eq i) js || b) (or-false (nat_eq i x) ∙ other_number i x (λ e. omega (arith, e, below, le))) ∙ or-false (list_any (nat_eq i) js))))

-- marks that are a test, with more of them set
pub marked-test : (p : ℕ → Bool) (n : ℕ) (js : List ℕ) → marked (map p (range_with_len 0 n)) js ≡ map (λ j. p j || list_any (nat_eq j) js) (range_with_len 0 n)
marked-test p n js =
    ap (λ (k : ℕ). map (λ j. get_or (map p (range_with_len 0 n)) j false || list_any (nat_eq j) js) (range_with_len 0 k)) (length-map-range_with_len p 0 n)
    ∙ map-below (λ j. get_or (map p (range_with_len 0 n)) j false || list_any (nat_eq j) js) (λ j. p j || list_any (nat_eq j) js) n
    (λ i below. ap (λ (b : Bool). b || list_any (nat_eq i) js) (get_or-map-range_with_len p 0 n i i false below (omega arith)))

-- none set is a test that nothing passes
pub none-set : (n : ℕ) → replicate n false ≡ map (λ j. false) (range_with_len 0 n)
none-set n = from 0 n
  where
    from : (a m : ℕ) → replicate m false ≡ map (λ j. false) (range_with_len a m)
    from a zero = refl
    from a (suc m) = ap (λ (bs : List Bool). false ∷ bs) (from (a + 1) m)
