-- Which of the rows that are the same are kept: there are such rows for each way to choose.
use Rattle.std.proofs.Common.{◌≡◌, ℕ, zero, suc, ◌+◌, ◌-◌, ◌<◌, ◌≤◌, ◌&&◌, ◌||◌, ◌⊎◌, inl, inr, Bool, true, false, not, cond, List, [], ◌∷◌, length, refl, sym, ap, ap₂, ◌∙◌, subst, arith}
use Rattle.std.specs.Cmp.{IsEquivalence, nat_cmp_is}
use Rattle.std.specs.List.{AllByRecursion, IsDistinct, list_any, range_with_len, slice_index_or}
use Rattle.std.specs.List.Sorted.{IsSorted}
use Rattle.std.specs.Ordering.{is_lt, nat_cmp}
use Rattle.std.specs.declared.cmp.Ordering.TheVariants.{Greater}
use Rattle.std.proofs.lemmas.Bool.{and_parts}
use Rattle.std.proofs.lemmas.Map.Steps.{list_any_congr}
use Rattle.plan_options.specs.declared.distinct.UniqueKeepStrategy.{UniqueKeepStrategy}
use Rattle.plan_options.specs.declared.distinct.UniqueKeepStrategy.TheVariants as keeps
use Rattle.plan_frame.specs.Values.{Value, same_value}
use Rattle.plan_frame.specs.Meaning.{Cell, value_at, are_alike, places_from}
use Rattle.plan_frame.specs.Orders.{AreKept, has_earlier, has_later}
use Rattle.plan_frame.proofs.SameValues.{value_decides}

-- to be the same in some cells is an equivalence

and_true : (a b : Bool) → a ≡ true → b ≡ true → (a && b) ≡ true
and_true true b e f = f
and_true false b e f = cc

alike_value : (c : Cell) (i j : ℕ) → same_value (value_at c i) (value_at c j) ≡ true → value_at c i ≡ value_at c j
alike_value c i j e = (value_decides (value_at c i) (value_at c j)).0 e

same_itself : (c : Cell) (i : ℕ) → same_value (value_at c i) (value_at c i) ≡ true
same_itself c i = (value_decides (value_at c i) (value_at c i)).1 refl

flips : (c : Cell) (i j : ℕ) → same_value (value_at c i) (value_at c j) ≡ same_value (value_at c j) (value_at c i)
flips c i j = at (same_value (value_at c i) (value_at c j)) (same_value (value_at c j) (value_at c i)) refl refl
  where
    at : (a b : Bool) → same_value (value_at c i) (value_at c j) ≡ a → same_value (value_at c j) (value_at c i) ≡ b → a ≡ b
    at true true e f = refl
    at false false e f = refl
    at true false e f = sym ((value_decides (value_at c j) (value_at c i)).1 (sym (alike_value c i j e))) ∙ f
    at false true e f = sym e ∙ (value_decides (value_at c i) (value_at c j)).1 (sym (alike_value c j i f))

alike_refl : (cs : List Cell) (i : ℕ) → are_alike cs i i ≡ true
alike_refl [] i = refl
alike_refl (c ∷ cs) i = and_true (same_value (value_at c i) (value_at c i)) (are_alike cs i i) (same_itself c i) (alike_refl cs i)

alike_symm : (cs : List Cell) (i j : ℕ) → are_alike cs i j ≡ are_alike cs j i
alike_symm [] i j = refl
alike_symm (c ∷ cs) i j = ap₂ (λ (a b : Bool). a && b) (flips c i j) (alike_symm cs i j)

alike_congr : (cs : List Cell) (i j k : ℕ) → are_alike cs i j ≡ true → are_alike cs i k ≡ are_alike cs j k
alike_congr [] i j k e = refl
alike_congr (c ∷ cs) i j k e =
    let p = and_parts (same_value (value_at c i) (value_at c j)) (are_alike cs i j) e in
    ap₂ (λ (v : Value) (b : Bool). same_value v (value_at c k) && b) (alike_value c i j p.0) (alike_congr cs i j k p.1)

pub alike_equivalence : (cs : List Cell) → IsEquivalence (are_alike cs)
alike_equivalence cs = record { refl = alike_refl cs; symm = alike_symm cs; congr = alike_congr cs }

-- tests over numbers from one on

pub any_cons : (a b : Bool) → (a || b) ≡ true → (a ≡ true) ⊎ (b ≡ true)
any_cons true b e = inl refl
any_cons false b e = inr e

pub or_second : (a b : Bool) → b ≡ true → (a || b) ≡ true
or_second true b e = refl
or_second false b e = e

pub or_first : (a b : Bool) → a ≡ true → (a || b) ≡ true
or_first true b e = refl
or_first false b e = cc

-- a number that passes, where one does
pub record Passes (p : ℕ → Bool) (a n : ℕ) : Type 0 where
  pub number : ℕ
  pub from : a ≤ number
  pub below : number < a + n
  pub passes : p number ≡ true

pub passing : (p : ℕ → Bool) (a n : ℕ) → list_any p (range_with_len a n) ≡ true → Passes p a n
passing p a zero e = cc
passing p a (suc n) e = elim (any_cons (p a) (list_any p (range_with_len (a + 1) n)) e) as (λ _. Passes p a (suc n)) [
  | inl f ↦ record { number = a; from = omega arith; below = omega arith; passes = f }
  | inr f ↦ (let r = passing p (a + 1) n f in record { number = r.number; from = omega (arith, r.from); below = omega (arith, r.below); passes = r.passes })
]

-- a number from a first one on is that or comes after it
pub first_or_later : (a i : ℕ) → a ≤ i → (a ≡ i) ⊎ (suc a ≤ i)
first_or_later zero zero h = inl refl
first_or_later zero (suc i) h = inr (omega arith)
first_or_later (suc a) zero h = absurd (omega (arith, h))
first_or_later (suc a) (suc i) h = elim (first_or_later a i (omega (arith, h))) as (λ _. (suc a ≡ suc i) ⊎ (suc (suc a) ≤ suc i)) [
  | inl e ↦ inl (ap suc e)
  | inr l ↦ inr (omega (arith, l))
]

pub passed : (p : ℕ → Bool) (a n i : ℕ) → a ≤ i → i < a + n → p i ≡ true → list_any p (range_with_len a n) ≡ true
passed p a zero i from below e = absurd (omega (arith, from, below))
passed p a (suc n) i from below e = elim (first_or_later a i from) as (λ _. (p a || list_any p (range_with_len (a + 1) n)) ≡ true) [
  | inl q ↦ or_first (p a) (list_any p (range_with_len (a + 1) n)) (ap p q ∙ e)
  | inr q ↦ or_second (p a) (list_any p (range_with_len (a + 1) n)) (passed p (a + 1) n i (omega (arith, q)) (omega (arith, below)) e)
]

-- none passes
pub none_pass : (p : ℕ → Bool) (a n i : ℕ) → list_any p (range_with_len a n) ≡ false → a ≤ i → i < a + n → p i ≡ false
none_pass p a n i e from below = at (p i) refl
  where
    at : (b : Bool) → p i ≡ b → b ≡ false
    at true q = sym (passed p a n i from below q) ∙ e
    at false q = refl

-- the places that pass a test

places_pass : (test : ℕ → Bool) (a n : ℕ) → AllByRecursion (λ i. test i ≡ true) (places_from test a n)
places_pass test a zero = tt
places_pass test a (suc n) = at (test a) refl (places_pass test (suc a) n)
  where
    at : (b : Bool) → test a ≡ b → AllByRecursion (λ i. test i ≡ true) (places_from test (suc a) n) → AllByRecursion (λ i. test i ≡ true) (cond b (a ∷ places_from test (suc a) n) (places_from test (suc a) n))
    at true e rest = (e, rest)
    at false e rest = rest

-- each is a number that passes, and after the first ones
places_each : (P : ℕ → Type 0) (test : ℕ → Bool) (a n : ℕ) → ((i : ℕ) → a ≤ i → i < a + n → test i ≡ true → P i) → AllByRecursion P (places_from test a n)
places_each P test a zero by = tt
places_each P test a (suc n) by = at (test a) refl (places_each P test (suc a) n (λ i from below e. by i (omega (arith, from)) (omega (arith, below)) e))
  where
    at : (b : Bool) → test a ≡ b → AllByRecursion P (places_from test (suc a) n) → AllByRecursion P (cond b (a ∷ places_from test (suc a) n) (places_from test (suc a) n))
    at true e rest = (by a (omega arith) (omega arith) e, rest)
    at false e rest = rest

places_meet : (p test : ℕ → Bool) (a n i : ℕ) → a ≤ i → i < a + n → test i ≡ true → p i ≡ true → list_any p (places_from test a n) ≡ true
places_meet p test a zero i from below e f = absurd (omega (arith, from, below))
places_meet p test a (suc n) i from below e f = elim (first_or_later a i from) as (λ _. list_any p (places_from test a (suc n)) ≡ true) [
  | inl q ↦ subst (λ (b : Bool). list_any p (cond b (a ∷ places_from test (suc a) n) (places_from test (suc a) n)) ≡ true) (sym (ap test q ∙ e)) (or_first (p a) (list_any p (places_from test (suc a) n)) (ap p q ∙ f))
  | inr q ↦ later (test a) (places_meet p test (suc a) n i q (omega (arith, below)) e f)
]
  where
    later : (b : Bool) → list_any p (places_from test (suc a) n) ≡ true → list_any p (cond b (a ∷ places_from test (suc a) n) (places_from test (suc a) n)) ≡ true
    later true r = or_second (p a) (list_any p (places_from test (suc a) n)) r
    later false r = r

places_apart : (same : ℕ → ℕ → Bool) (test : ℕ → Bool) (a n : ℕ) → ((i j : ℕ) → i < j → j < a + n → test i ≡ true → test j ≡ true → same i j ≡ false) → IsDistinct same (places_from test a n)
unfolding IsDistinct
places_apart same test a zero by = tt
places_apart same test a (suc n) by = at (test a) refl (places_apart same test (suc a) n (λ i j lt below e f. by i j lt (omega (arith, below)) e f))
  where
    at : (b : Bool) → test a ≡ b → IsDistinct same (places_from test (suc a) n) → IsDistinct same (cond b (a ∷ places_from test (suc a) n) (places_from test (suc a) n))
    at true e rest = (places_each (λ j. same a j ≡ false) test (suc a) n (λ j from below f. by a j (omega (arith, from)) (omega (arith, below)) e f), rest)
    at false e rest = rest

-- each number is below those after it
abbrev Rises : List ℕ → Type 0
Rises [] = Unit {0}
Rises (x ∷ xs) = AllByRecursion (λ y. x < y) xs × Rises xs

rising_sorted : (xs : List ℕ) → Rises xs → IsSorted nat_cmp xs
rising_sorted [] h = λ k d low high. absurd (omega (arith, high))
rising_sorted (x ∷ []) h = λ k d low high. absurd (omega (arith, high))
rising_sorted (x ∷ y ∷ ys) h = go (rising_sorted (y ∷ ys) h.1)
  where
    go : IsSorted nat_cmp (y ∷ ys) → (k d : ℕ) → 0 ≤ k → k + 1 < length (x ∷ y ∷ ys) → is_lt (nat_cmp (slice_index_or (x ∷ y ∷ ys) (k + 1) d) (slice_index_or (x ∷ y ∷ ys) k d)) ≡ false
    go rest zero d low high = sym (ap is_lt (nat_cmp_is y x Greater h.0.0))
    go rest (suc k) d low high =
        let e : suc k + 1 ≡ suc (k + 1) = omega arith in
        ap (λ (m : ℕ). is_lt (nat_cmp (slice_index_or (x ∷ y ∷ ys) m d) (slice_index_or (x ∷ y ∷ ys) (suc k) d))) e ∙ rest k d (omega arith) (omega (arith, high))

places_rise : (test : ℕ → Bool) (a n : ℕ) → Rises (places_from test a n)
places_rise test a zero = tt
places_rise test a (suc n) = at (test a) (places_rise test (suc a) n)
  where
    at : (b : Bool) → Rises (places_from test (suc a) n) → Rises (cond b (a ∷ places_from test (suc a) n) (places_from test (suc a) n))
    at true r = (places_each (λ j. a < j) test (suc a) n (λ j from below e. omega (arith, from)), r)
    at false r = r

places_ascend : (test : ℕ → Bool) (n : ℕ) → IsSorted nat_cmp (places_from test 0 n)
places_ascend test n = rising_sorted (places_from test 0 n) (places_rise test 0 n)

-- what is kept

module _ (same : ℕ → ℕ → Bool) (o : IsEquivalence same) (h : ℕ) where
  abbrev is_first : ℕ → Bool
  is_first i = not (has_earlier same i)

  abbrev is_last : ℕ → Bool
  is_last i = not (has_later same h i)

  abbrev is_alone : ℕ → Bool
  is_alone i = not (has_earlier same i || has_later same h i)

  turned_round : (b : Bool) → not b ≡ true → b ≡ false
  turned_round true e = cc
  turned_round false e = refl

  not_first : (i j : ℕ) → i < j → is_first j ≡ true → same i j ≡ false
  not_first i j lt e = o.symm i j ∙ none_pass (same j) 0 j i (turned_round (has_earlier same j) e) (omega arith) (omega (arith, lt))

  not_last : (i j : ℕ) → i < j → j < h → is_last i ≡ true → same i j ≡ false
  not_last i j lt below e = none_pass (same i) (suc i) (h - suc i) j (turned_round (has_later same h i) e) (omega (arith, lt)) (omega (arith, lt, below))

  neither : (a b : Bool) → not (a || b) ≡ true → (not a ≡ true) × (not b ≡ true)
  neither true b e = cc
  neither false true e = cc
  neither false false e = (refl, refl)

  -- each row is the same as one that is first
  first_is_met : (k i : ℕ) → i ≤ k → i < h → list_any (same i) (places_from is_first 0 h) ≡ true
  first_is_met zero i low below = at (has_earlier same i) refl
    where
      at : (b : Bool) → has_earlier same i ≡ b → list_any (same i) (places_from is_first 0 h) ≡ true
      at false e = places_meet (same i) is_first 0 h i (omega arith) (omega (arith, below)) (ap not e) (o.refl i)
      at true e = let r = passing (same i) 0 i e in let q = r.below in absurd (omega (arith, low, q))
  first_is_met (suc k) i low below = at (λ j lt. first_is_met k j (omega (arith, low, lt)) (omega (arith, below, lt))) (has_earlier same i) refl
    where
      at : ((j : ℕ) → j < i → list_any (same j) (places_from is_first 0 h) ≡ true) → (b : Bool) → has_earlier same i ≡ b → list_any (same i) (places_from is_first 0 h) ≡ true
      at by false e = places_meet (same i) is_first 0 h i (omega arith) (omega (arith, below)) (ap not e) (o.refl i)
      at by true e = let r = passing (same i) 0 i e in let q = r.below in list_any_congr o i r.number (places_from is_first 0 h) r.passes ∙ by r.number (omega (arith, q))

  -- and as one that is last
  last_is_met : (k i : ℕ) → h ≤ i + k → i < h → list_any (same i) (places_from is_last 0 h) ≡ true
  last_is_met zero i low below = absurd (omega (arith, low, below))
  last_is_met (suc k) i low below = at (λ j from lt. last_is_met k j (omega (arith, low, from)) lt) (has_later same h i) refl
    where
      at : ((j : ℕ) → suc i ≤ j → j < h → list_any (same j) (places_from is_last 0 h) ≡ true) → (b : Bool) → has_later same h i ≡ b → list_any (same i) (places_from is_last 0 h) ≡ true
      at by false e = places_meet (same i) is_last 0 h i (omega arith) (omega (arith, below)) (ap not e) (o.refl i)
      at by true e =
          let r = passing (same i) (suc i) (h - suc i) e in
          let from = r.from in
          let q = r.below in
          list_any_congr o i r.number (places_from is_last 0 h) r.passes ∙ by r.number from (omega (arith, below, q))

  in_frame : (test : ℕ → Bool) → AllByRecursion (λ i. i < h) (places_from test 0 h)
  in_frame test = places_each (λ i. i < h) test 0 h (λ i from below e. omega (arith, below))

  pub kept_exists : (stable : Bool) (keep : UniqueKeepStrategy) → (rows : List ℕ) × AreKept stable keep same h rows
  kept_exists stable keeps.First = (
    places_from is_first 0 h,
    record {
      below = in_frame is_first;
      apart = places_apart same is_first 0 h (λ i j lt below e f. not_first i j lt f);
      may = places_pass is_first 0 h;
      must = λ i lt e. first_is_met i i (omega arith) lt;
      in_order = λ e. places_ascend is_first h;
    },
  )
  kept_exists stable keeps.Any = (
    places_from is_first 0 h,
    record {
      below = in_frame is_first;
      apart = places_apart same is_first 0 h (λ i j lt below e f. not_first i j lt f);
      may = places_each (λ i. true ≡ true) is_first 0 h (λ i from below e. refl);
      must = λ i lt e. first_is_met i i (omega arith) lt;
      in_order = λ e. places_ascend is_first h;
    },
  )
  kept_exists stable keeps.Last = (
    places_from is_last 0 h,
    record {
      below = in_frame is_last;
      apart = places_apart same is_last 0 h (λ i j lt below e f. not_last i j lt (omega (arith, below)) e);
      may = places_pass is_last 0 h;
      must = λ i lt e. last_is_met h i (omega arith) lt;
      in_order = λ e. places_ascend is_last h;
    },
  )
  kept_exists stable keeps.None = (
    places_from is_alone 0 h,
    record {
      below = in_frame is_alone;
      apart = places_apart same is_alone 0 h (λ i j lt below e f. not_first i j lt (neither (has_earlier same j) (has_later same h j) f).0);
      may = places_pass is_alone 0 h;
      must = λ i lt e. places_meet (same i) is_alone 0 h i (omega arith) (omega (arith, lt)) e (o.refl i);
      in_order = λ e. places_ascend is_alone h;
    },
  )
