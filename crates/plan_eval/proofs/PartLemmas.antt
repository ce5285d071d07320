-- The last and the only one of the numbers that pass a test.
use Rattle.std.proofs.Common.{◌≡◌, ℕ, zero, suc, ◌+◌, ◌-◌, ◌<◌, ◌≤◌, Bool, true, false, cond, List, [], ◌∷◌, length, Some, refl, sym, ap, ap₂, ◌∙◌, subst, arith, get_or, eqb-true}
use Rattle.std.specs.Prelude.{nat_eq}
use Rattle.std.specs.List.{slice_get}
use Rattle.std.proofs.lemmas.Option.{same_Some, slice_get-get_or}
use Rattle.plan_frame.specs.Meaning.{places_from}
use Rattle.plan_meaning.proofs.FirstPassing.{NoneWithin, Passes, from-next, here-passes, later-number, later-passes, no-places, none-there, some-there}
use Rattle.plan_eval.specs.Distinct.{only}

last-of-two : (a b : ℕ) (xs : List ℕ) → slice_get (a ∷ b ∷ xs) (length (a ∷ b ∷ xs) - 1) ≡ slice_get (b ∷ xs) (length (b ∷ xs) - 1)
last-of-two a b xs = let q : length (a ∷ b ∷ xs) - 1 ≡ suc (length (b ∷ xs) - 1) = omega arith in ap (slice_get (a ∷ b ∷ xs)) q

last-of-one : (a i : ℕ) → slice_get (a ∷ []) (length (a ∷ []) - 1) ≡ Some i → a ≡ i
last-of-one a i e = let q : 0 ≡ length (a ∷ []) - 1 = omega arith in same_Some a i (ap (slice_get (a ∷ [])) q ∙ e)

-- the last one passes, and none after it
pub last-passes : (test : ℕ → Bool) (a n i : ℕ) → slice_get (places_from test a n) (length (places_from test a n) - 1) ≡ Some i → Passes test a n i × NoneWithin test (suc i) (a + n)
last-passes test a zero i e = cc
last-passes test a (suc n) i e = at (test a) refl e (last-passes test (suc a) n i)
  where
    rest : List ℕ
    rest = places_from test (suc a) n

    at-end : List ℕ → Type 0
    at-end ps = slice_get ps (length ps - 1) ≡ Some i

    is-last : Type 0
    is-last = Passes test a (suc n) i × NoneWithin test (suc i) (a + suc n)

    from-rest : Passes test (suc a) n i × NoneWithin test (suc i) (suc a + n) → is-last
    from-rest r = (later-passes test a n i r.0, λ j from low. r.1 j from (omega (arith, low)))

    of : (ps : List ℕ) → rest ≡ ps → test a ≡ true → at-end (a ∷ ps) → (at-end rest → Passes test (suc a) n i × NoneWithin test (suc i) (suc a + n)) → is-last
    of [] q t e below =
        let same = last-of-one a i e in
        (here-passes test a n i same t, λ j from low. none-there test (suc a) n q j (omega (arith, same, from)) (omega (arith, low)))
    of (p ∷ ps) q t e below = from-rest (below (subst at-end (sym q) (sym (last-of-two a p ps) ∙ e)))

    at : (b : Bool) → test a ≡ b → at-end (cond b (a ∷ rest) rest) → (at-end rest → Passes test (suc a) n i × NoneWithin test (suc i) (suc a + n)) → is-last
    at true t e below = of rest refl t e below
    at false t e below = from-rest (below e)

-- the only one passes, and none before or after it
pub only-passes : (test : ℕ → Bool) (a n i : ℕ) → only (places_from test a n) ≡ Some i → Passes test a n i × NoneWithin test a i × NoneWithin test (suc i) (a + n)
only-passes test a zero i e = cc
only-passes test a (suc n) i e = at (test a) refl e (only-passes test (suc a) n i)
  where
    rest : List ℕ
    rest = places_from test (suc a) n

    is-only : Type 0
    is-only = Passes test a (suc n) i × NoneWithin test a i × NoneWithin test (suc i) (a + suc n)

    of : (ps : List ℕ) → rest ≡ ps → test a ≡ true → only (a ∷ ps) ≡ Some i → is-only
    of [] q t e =
        let same = same_Some a i e in (
          here-passes test a n i same t,
          λ j from low. absurd (omega (arith, same, from, low)),
          λ j from low. none-there test (suc a) n q j (omega (arith, same, from)) (omega (arith, low)),
        )
    of (p ∷ ps) q t e = cc

    at : (b : Bool) → test a ≡ b → only (cond b (a ∷ rest) rest) ≡ Some i → (only rest ≡ Some i → Passes test (suc a) n i × NoneWithin test (suc a) i × NoneWithin test (suc i) (suc a + n)) → is-only
    at true t e below = of rest refl t e
    at false t e below =
        let r = below e in (
          later-passes test a n i r.0,
          λ j from low. from-next (λ k. test k ≡ false) a j from t (λ later. r.1 j later low),
          λ j from low. r.2 j from (omega (arith, low)),
        )

-- where one passes there is a last one

pub last-there : (test : ℕ → Bool) (n i : ℕ) → i < n → test i ≡ true → (j : ℕ) × (slice_get (places_from test 0 n) (length (places_from test 0 n) - 1) ≡ Some j)
last-there test n i below t =
    let k = some-there test 0 n i (omega arith) (omega (arith, below)) t in
    let xs : List ℕ = k.0 ∷ k.1 in
    let lt : length xs - 1 < length xs = omega arith in
    (get_or xs (length xs - 1) 0, ap (λ (l : List ℕ). slice_get l (length l - 1)) k.2 ∙ slice_get-get_or xs (length xs - 1) 0 lt)

-- one that is alone is the only one
alone-there : (test : ℕ → Bool) (a n i : ℕ) → a ≤ i → i < a + n → test i ≡ true → NoneWithin test a i → NoneWithin test (suc i) (a + n) → places_from test a n ≡ i ∷ []
alone-there test a zero i from below t before after = absurd (omega (arith, from, below))
alone-there test a (suc n) i from below t before after =
    at (nat_eq a i) refl (λ later. alone-there test (suc a) n i later (omega (arith, below)) t (λ j f b. before j (omega (arith, f)) b) (λ j f b. after j f (omega (arith, b))))
  where
    rest : List ℕ
    rest = places_from test (suc a) n

    with-head : (b : Bool) → test a ≡ b → cond b (a ∷ rest) rest ≡ i ∷ [] → places_from test a (suc n) ≡ i ∷ []
    with-head b q e = subst (λ (c : Bool). cond c (a ∷ rest) rest ≡ i ∷ []) (sym q) e

    at : (b : Bool) → nat_eq a i ≡ b → (suc a ≤ i → rest ≡ i ∷ []) → places_from test a (suc n) ≡ i ∷ []
    at true q below =
        let same : a ≡ i = eqb-true a i q in
        with-head true (subst (λ (k : ℕ). test k ≡ true) (sym same) t)
        (ap₂ (λ (x : ℕ) (xs : List ℕ). x ∷ xs) same (no-places test (suc a) n (λ j f b. after j (omega (arith, same, f)) (omega (arith, b)))))
    at false q below =
        let later = later-number a i from q in
        with-head false (before a (omega arith) (omega (arith, later))) (below later)

pub only-there : (test : ℕ → Bool) (n i : ℕ) → i < n → test i ≡ true → NoneWithin test 0 i → NoneWithin test (suc i) n → only (places_from test 0 n) ≡ Some i
only-there test n i below t before after = ap only (alone-there test 0 n i (omega arith) (omega (arith, below)) t before (λ j from b. after j from (omega (arith, b))))
