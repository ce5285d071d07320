-- The rows that are kept in a settled way are one list.
use Rattle.std.proofs.Common.{◌≡◌, ◌∙◌, ◌⊎◌, inl, inr, ◌-◌, ◌<◌, ◌≤◌, ◌||◌, ℕ, suc, Bool, true, false, not, List, [], ◌∷◌, Option, refl, sym, ap, ap₂, subst, arith, eqb-true, eq-eqb, unwrap_or}
use Rattle.std.specs.Prelude.{nat_eq}
use Rattle.std.specs.Cmp.{IsEquivalence, nat_cmp_is}
use Rattle.std.specs.List.{AllByRecursion, IsDistinct, list_any}
use Rattle.std.specs.List.Sorted.{IsSorted}
use Rattle.std.specs.Ordering.{is_lt, nat_cmp}
use Rattle.std.specs.declared.cmp.Ordering.TheVariants.{Less}
use Rattle.std.proofs.lemmas.Bool.{cases_lt}
use Rattle.plan_options.specs.declared.distinct.UniqueKeepStrategy.{UniqueKeepStrategy}
use Rattle.plan_options.specs.declared.distinct.UniqueKeepStrategy.TheVariants as keeps
use Rattle.plan_frame.specs.Orders.{AreKept, has_earlier, has_later, may_be_kept, must_be_kept}
use Rattle.plan_frame.proofs.KeptRows.{none_pass}
use Rattle.plan_meaning.specs.Choices.{AreChosen, first_same, settled}
use Rattle.plan_meaning.proofs.FarApart.{tail-sorted}
use Rattle.plan_meaning.proofs.FirstPassing.{first-passes, first-there, neither}

-- Rows that rise by a key

-- what holds of each row holds of one that is there
at-row : (P : ℕ → Type 0) (i : ℕ) (xs : List ℕ) → AllByRecursion P xs → list_any (nat_eq i) xs ≡ true → P i
at-row P i [] h e = cc
at-row P i (x ∷ xs) h e = at (nat_eq i x) refl e (at-row P i xs h.1)
  where
    at : (b : Bool) → nat_eq i x ≡ b → (b || list_any (nat_eq i) xs) ≡ true → (list_any (nat_eq i) xs ≡ true → P i) → P i
    at true q e rest = subst P (sym (eqb-true i x q)) h.0
    at false q e rest = rest e

-- a row that heads a list is there
head-there : (x : ℕ) (xs : List ℕ) → list_any (nat_eq x) (x ∷ xs) ≡ true
head-there x xs = ap (λ (b : Bool). b || list_any (nat_eq x) xs) (eq-eqb x x refl)

module _ (key : ℕ → ℕ) where
  abbrev Rise : List ℕ → Type 0
  Rise [] = Unit {0}
  Rise (x ∷ xs) = AllByRecursion (λ y. key x < key y) xs × Rise xs

  or-same : ℕ → ℕ → Type 0
  or-same x y = (x ≡ y) ⊎ (key y < key x)

  weaker : (x : ℕ) (xs : List ℕ) → AllByRecursion (λ z. key x < key z) xs → AllByRecursion (λ z. (z ≡ x) ⊎ (key x < key z)) xs
  weaker x [] h = tt
  weaker x (y ∷ xs) h = (inr h.0, weaker x xs h.1)

  -- a later row of a list with the same first row
  later : (x y z : ℕ) (xs ys : List ℕ) → x ≡ y → AllByRecursion (λ w. key x < key w) xs → list_any (nat_eq z) xs ≡ true → list_any (nat_eq z) (y ∷ ys) ≡ true → list_any (nat_eq z) ys ≡ true
  later x y z xs ys same h e f = at (nat_eq z y) refl f
    where
      at : (b : Bool) → nat_eq z y ≡ b → (b || list_any (nat_eq z) ys) ≡ true → list_any (nat_eq z) ys ≡ true
      at true q f = let lt : key x < key z = at-row (λ w. key x < key w) z xs h e in let w = ap key (eqb-true z y q ∙ sym same) in absurd (omega (arith, lt, w))
      at false q f = f

  either : (x y : ℕ) → (x ≡ y) ⊎ (key y < key x) → (y ≡ x) ⊎ (key x < key y) → x ≡ y
  either x y (inl e) k = e
  either x y (inr lt) (inl e) = sym e
  either x y (inr lt) (inr gt) = absurd (omega (arith, lt, gt))

  -- rows that rise are one list where they are the same rows
  one-rise : (xs ys : List ℕ) → Rise xs → Rise ys → ((z : ℕ) → list_any (nat_eq z) xs ≡ true → list_any (nat_eq z) ys ≡ true) → ((z : ℕ) → list_any (nat_eq z) ys ≡ true → list_any (nat_eq z) xs ≡ true) → xs ≡ ys
  one-rise [] [] h k to from = refl
  one-rise [] (y ∷ ys) h k to from = let e = from y (head-there y ys) in cc
  one-rise (x ∷ xs) [] h k to from = let e = to x (head-there x xs) in cc
  one-rise (x ∷ xs) (y ∷ ys) h k to from =
      let a = at-row (λ z. (z ≡ y) ⊎ (key y < key z)) x (y ∷ ys) (inl refl, weaker y ys k.0) (to x (head-there x xs)) in
      let b = at-row (λ z. (z ≡ x) ⊎ (key x < key z)) y (x ∷ xs) (inl refl, weaker x xs h.0) (from y (head-there y ys)) in
      let same : x ≡ y = either x y a b in
      ap₂ (λ (z : ℕ) (zs : List ℕ). z ∷ zs) same
      (one-rise xs ys h.1 k.1
      (λ z e. later x y z xs ys same h.0 e (to z (in-tail x z xs e)))
      (λ z e. later y x z ys xs (sym same) k.0 e (from z (in-tail y z ys e))))
    where
      in-tail : (x z : ℕ) (xs : List ℕ) → list_any (nat_eq z) xs ≡ true → list_any (nat_eq z) (x ∷ xs) ≡ true
      in-tail x z xs e = at (nat_eq z x)
        where
          at : (b : Bool) → (b || list_any (nat_eq z) xs) ≡ true
          at true = refl
          at false = e

  above : (x y : ℕ) (zs : List ℕ) → key x < key y → AllByRecursion (λ z. key y < key z) zs → AllByRecursion (λ z. key x < key z) zs
  above x y [] lt h = tt
  above x y (z ∷ zs) lt h = let w = h.0 in (omega (arith, lt, w), above x y zs lt h.1)

  -- rows in the order of a key that tells apart those that are not the same
  rises : (same : ℕ → ℕ → Bool) (h : ℕ) → ((i j : ℕ) → i < h → j < h → key i ≡ key j → same i j ≡ true) → (xs : List ℕ) → AllByRecursion (λ i. i < h) xs → IsDistinct same xs → IsSorted (λ i j. nat_cmp (key i) (key j)) xs → Rise xs
  unfolding IsDistinct
  rises same h tells [] below apart sorted = tt
  rises same h tells (x ∷ []) below apart sorted = (tt, tt)
  rises same h tells (x ∷ y ∷ zs) below apart sorted =
      let r = rises same h tells (y ∷ zs) below.1 apart.1 (tail-sorted (λ i j. nat_cmp (key i) (key j)) x (y ∷ zs) sorted) in
      let lt : key x < key y = strict (cases_lt (key y) (key x)) (cases_lt (key x) (key y)) in
      ((lt, above x y zs lt r.0), r)
    where
      strict : (key y < key x) ⊎ (key x ≤ key y) → (key x < key y) ⊎ (key y ≤ key x) → key x < key y
      strict (inl less) k = let e : is_lt (nat_cmp (key y) (key x)) ≡ false = sorted 0 x (omega arith) (omega arith) in let f : true ≡ is_lt (nat_cmp (key y) (key x)) = ap is_lt (nat_cmp_is (key y) (key x) Less less) in cc
      strict (inr le) (inl lt) = lt
      strict (inr le) (inr ge) = let e : same x y ≡ true = tells x y below.0 below.1.0 (omega (arith, le, ge)) in let f : same x y ≡ false = apart.0.0 in cc

-- Rows that are kept

is-false : (a : Bool) → not a ≡ true → a ≡ false
is-false true e = cc
is-false false e = refl

module _ (same : ℕ → ℕ → Bool) (o : IsEquivalence same) (h : ℕ) where
  no-earlier : (i j : ℕ) → j < i → has_earlier same i ≡ false → same i j ≡ false
  no-earlier i j lt e = none_pass (same i) 0 i j e (omega arith) (omega (arith, lt))

  no-later : (i j : ℕ) → i < j → j < h → has_later same h i ≡ false → same i j ≡ false
  no-later i j lt below e = none_pass (same i) (suc i) (h - suc i) j e (omega (arith, lt)) (omega (arith, lt, below))

  -- of rows that are the same one alone may be kept
  first-alone : (i j : ℕ) → has_earlier same i ≡ false → has_earlier same j ≡ false → same i j ≡ true → i ≡ j
  first-alone i j e f s = at (cases_lt i j) (cases_lt j i)
    where
      at : (i < j) ⊎ (j ≤ i) → (j < i) ⊎ (i ≤ j) → i ≡ j
      at (inl lt) k = let a = no-earlier j i lt f in let b = o.symm i j in cc
      at (inr le) (inl lt) = let a = no-earlier i j lt e in cc
      at (inr le) (inr ge) = omega (arith, le, ge)

  last-alone : (i j : ℕ) → i < h → j < h → has_later same h i ≡ false → has_later same h j ≡ false → same i j ≡ true → i ≡ j
  last-alone i j low high e f s = at (cases_lt i j) (cases_lt j i)
    where
      at : (i < j) ⊎ (j ≤ i) → (j < i) ⊎ (i ≤ j) → i ≡ j
      at (inl lt) k = let a = no-later i j lt high e in cc
      at (inr le) (inl lt) = let a = no-later j i lt low f in let b = o.symm i j in cc
      at (inr le) (inr ge) = omega (arith, le, ge)

  alone : (keep : UniqueKeepStrategy) (i j : ℕ) → i < h → j < h → may_be_kept (settled keep) same h i ≡ true → may_be_kept (settled keep) same h j ≡ true → same i j ≡ true → i ≡ j
  alone keeps.First i j low high e f s = first-alone i j (is-false (has_earlier same i) e) (is-false (has_earlier same j) f) s
  alone keeps.Any i j low high e f s = first-alone i j (is-false (has_earlier same i) e) (is-false (has_earlier same j) f) s
  alone keeps.Last i j low high e f s = last-alone i j low high (is-false (has_later same h i) e) (is-false (has_later same h j) f) s
  alone keeps.None i j low high e f s = first-alone i j (neither (has_earlier same i) (has_later same h i) e).0 (neither (has_earlier same j) (has_later same h j) f).0 s

  -- one that may be kept must be
  must : (keep : UniqueKeepStrategy) (i : ℕ) → may_be_kept (settled keep) same h i ≡ true → must_be_kept (settled keep) same h i ≡ true
  must keeps.First i e = refl
  must keeps.Any i e = refl
  must keeps.Last i e = refl
  must keeps.None i e = e

  -- a row that is the same as one that is there, and no other is, is there
  there : (i : ℕ) (xs : List ℕ) → AllByRecursion (λ j. same i j ≡ true → i ≡ j) xs → list_any (same i) xs ≡ true → list_any (nat_eq i) xs ≡ true
  there i [] h e = e
  there i (x ∷ xs) h e = at (same i x) refl e (there i xs h.1)
    where
      after : (b : Bool) → list_any (nat_eq i) xs ≡ true → (b || list_any (nat_eq i) xs) ≡ true
      after true r = refl
      after false r = r

      at : (b : Bool) → same i x ≡ b → (b || list_any (same i) xs) ≡ true → (list_any (same i) xs ≡ true → list_any (nat_eq i) xs ≡ true) → list_any (nat_eq i) (x ∷ xs) ≡ true
      at true q e rest = ap (λ (b : Bool). b || list_any (nat_eq i) xs) (eq-eqb i x (h.0 q))
      at false q e rest = after (nat_eq i x) (rest e)

  module _ (keep : UniqueKeepStrategy) where
    only-one : (i : ℕ) → i < h → may_be_kept (settled keep) same h i ≡ true → (xs : List ℕ) → AllByRecursion (λ j. j < h) xs → AllByRecursion (λ j. may_be_kept (settled keep) same h j ≡ true) xs → AllByRecursion (λ j. same i j ≡ true → i ≡ j) xs
    only-one i lt e [] b m = tt
    only-one i lt e (x ∷ xs) b m = (λ s. alone keep i x lt b.0 e m.0 s, only-one i lt e xs b.1 m.1)

    -- the rows that are kept in one way are kept in another
    kept-there : (a b : Bool) (xs ys : List ℕ) → AreKept a (settled keep) same h xs → AreKept b (settled keep) same h ys → (z : ℕ) → list_any (nat_eq z) xs ≡ true → list_any (nat_eq z) ys ≡ true
    kept-there a b xs ys k l z e =
        let lt : z < h = at-row (λ i. i < h) z xs k.below e in
        let may : may_be_kept (settled keep) same h z ≡ true = at-row (λ i. may_be_kept (settled keep) same h i ≡ true) z xs k.may e in
        there z ys (only-one z lt may ys l.below l.may) (l.must z lt (must keep z may))

    kept-rise : (key : ℕ → ℕ) → ((i j : ℕ) → i < h → j < h → key i ≡ key j → same i j ≡ true) → (a b : Bool) (xs ys : List ℕ) → AreKept a (settled keep) same h xs → AreKept b (settled keep) same h ys
        → IsSorted (λ i j. nat_cmp (key i) (key j)) xs → IsSorted (λ i j. nat_cmp (key i) (key j)) ys → xs ≡ ys
    kept-rise key tells a b xs ys k l p q =
        one-rise key xs ys (rises key same h tells xs k.below k.apart p) (rises key same h tells ys l.below l.apart q) (kept-there a b xs ys k l) (kept-there b a ys xs l k)

    -- the first row that is the same as a row is the same
    is-first : (i : ℕ) → i < h → same i (first_same same h i) ≡ true
    is-first i lt =
        let f = first-there (same i) h i lt (o.refl i) in
        let p = (first-passes (same i) 0 h f.0 f.1).0 in
        ap (λ (r : Option ℕ). same i (unwrap_or r i)) f.1 ∙ p.passes

    firsts-tell : (i j : ℕ) → i < h → j < h → first_same same h i ≡ first_same same h j → same i j ≡ true
    firsts-tell i j low high e =
        let a = is-first i low in
        let b = is-first j high in
        let c : same j (first_same same h i) ≡ true = ap (same j) e ∙ b in
        o.congr i (first_same same h i) j a ∙ o.symm (first_same same h i) j ∙ c

    -- the rows that are kept are one list
    pub one-choice : (stable : Bool) (xs ys : List ℕ) → AreChosen stable keep same h xs → AreChosen stable keep same h ys → xs ≡ ys
    one-choice true xs ys k l = kept-rise (λ i. i) (λ i j low high e. ap (same i) (sym e) ∙ o.refl i) true true xs ys k.kept l.kept (k.kept.in_order refl) (l.kept.in_order refl)
    one-choice false xs ys k l = kept-rise (first_same same h) firsts-tell false false xs ys k.kept l.kept (k.by_firsts refl) (l.by_firsts refl)
