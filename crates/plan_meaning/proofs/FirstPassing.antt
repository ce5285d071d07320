-- The first of the numbers that pass a test, where one does.
use Rattle.std.proofs.Common.{◌≡◌, ◌≢◌, ℕ, zero, suc, ◌+◌, ◌<◌, ◌≤◌, ◌||◌, Bool, true, false, not, cond, List, [], ◌∷◌, Some, refl, sym, ap, ◌∙◌, subst, arith, eqb-true, eq-eqb, true≢false}
use Rattle.std.specs.Prelude.{nat_eq}
use Rattle.std.specs.List.{slice_get}
use Rattle.std.proofs.lemmas.Option.{same_Some}
use Rattle.plan_frame.specs.Meaning.{places_from}

-- a number passes, and is one of so many from a first one on
pub record Passes (test : ℕ → Bool) (a n i : ℕ) : Type 0 where
  pub from : a ≤ i
  pub below : i < a + n
  pub passes : test i ≡ true

-- none from a first number on and before another one passes
abbrev pub NoneWithin : (ℕ → Bool) → ℕ → ℕ → Type 0
NoneWithin test a b = (j : ℕ) → a ≤ j → j < b → test j ≡ false

-- numbers that are told apart
pub other-number : (a b : ℕ) → nat_eq a b ≡ false → a ≢ b
other-number a b e = λ same. true≢false (sym (eq-eqb a b same) ∙ e)

pub later-number : (a b : ℕ) → a ≤ b → nat_eq a b ≡ false → suc a ≤ b
later-number a b from e = let other = other-number a b e in omega (arith, other, from)

-- what holds of a number, and of the later ones
pub from-next : (P : ℕ → Type 0) (a j : ℕ) → a ≤ j → P a → (suc a ≤ j → P j) → P j
from-next P a j from here later = at (nat_eq a j) refl
  where
    at : (b : Bool) → nat_eq a j ≡ b → P j
    at true q = subst P (eqb-true a j q) here
    at false q = later (later-number a j from q)

-- none passes
pub none-there : (test : ℕ → Bool) (a n : ℕ) → places_from test a n ≡ [] → NoneWithin test a (a + n)
none-there test a zero e j from below = absurd (omega (arith, from, below))
none-there test a (suc n) e j from below = at (test a) refl e (λ f later. none-there test (suc a) n f j later (omega (arith, below)))
  where
    rest : List ℕ
    rest = places_from test (suc a) n

    at : (b : Bool) → test a ≡ b → cond b (a ∷ rest) rest ≡ [] → (rest ≡ [] → suc a ≤ j → test j ≡ false) → test j ≡ false
    at true t e below = cc
    at false t e below = from-next (λ k. test k ≡ false) a j from t (below e)

pub no-places : (test : ℕ → Bool) (a n : ℕ) → NoneWithin test a (a + n) → places_from test a n ≡ []
no-places test a zero h = refl
no-places test a (suc n) h =
    subst (λ (b : Bool). cond b (a ∷ places_from test (suc a) n) (places_from test (suc a) n) ≡ []) (sym (h a (omega arith) (omega arith)))
    (no-places test (suc a) n (λ j from below. h j (omega (arith, from)) (omega (arith, below))))

-- a number among later ones
pub later-passes : (test : ℕ → Bool) (a n i : ℕ) → Passes test (suc a) n i → Passes test a (suc n) i
later-passes test a n i p = record { from = let q = p.from in omega (arith, q); below = let q = p.below in omega (arith, q); passes = p.passes }

pub here-passes : (test : ℕ → Bool) (a n i : ℕ) → a ≡ i → test a ≡ true → Passes test a (suc n) i
here-passes test a n i same t = record { from = omega (arith, same); below = omega (arith, same); passes = subst (λ (k : ℕ). test k ≡ true) same t }

-- the first one passes, and none before it
pub first-passes : (test : ℕ → Bool) (a n i : ℕ) → slice_get (places_from test a n) 0 ≡ Some i → Passes test a n i × NoneWithin test a i
first-passes test a zero i e = cc
first-passes test a (suc n) i e = at (test a) refl e (first-passes test (suc a) n i)
  where
    rest : List ℕ
    rest = places_from test (suc a) n

    at : (b : Bool) → test a ≡ b → slice_get (cond b (a ∷ rest) rest) 0 ≡ Some i → (slice_get rest 0 ≡ Some i → Passes test (suc a) n i × NoneWithin test (suc a) i) → Passes test a (suc n) i × NoneWithin test a i
    at true t e below = let same : a ≡ i = same_Some a i e in (here-passes test a n i same t, λ j from low. absurd (omega (arith, same, from, low)))
    at false t e below =
        let r = below e in
        (later-passes test a n i r.0, λ j from low. from-next (λ k. test k ≡ false) a j from t (λ later. r.1 j later low))

-- where one passes there is a first one

abbrev pub HasItem : List ℕ → Type 0
HasItem xs = (y : ℕ) × (ys : List ℕ) × (xs ≡ y ∷ ys)

pub some-there : (test : ℕ → Bool) (a n i : ℕ) → a ≤ i → i < a + n → test i ≡ true → HasItem (places_from test a n)
some-there test a zero i from below t = absurd (omega (arith, from, below))
some-there test a (suc n) i from below t = at (test a) refl (λ later. some-there test (suc a) n i later (omega (arith, below)) t)
  where
    rest : List ℕ
    rest = places_from test (suc a) n

    apart : false ≡ true → ⊥
    apart e = cc

    at : (b : Bool) → test a ≡ b → (suc a ≤ i → HasItem rest) → HasItem (cond b (a ∷ rest) rest)
    at true q below = (a, rest, refl)
    at false q below = below (from-next (λ k. test k ≡ true → suc a ≤ k) a i from (λ r. absurd (apart (sym q ∙ r))) (λ l r. l) t)

pub first-there : (test : ℕ → Bool) (n i : ℕ) → i < n → test i ≡ true → (j : ℕ) × (slice_get (places_from test 0 n) 0 ≡ Some j)
first-there test n i below t =
    let k = some-there test 0 n i (omega arith) (omega (arith, below)) t in
    (k.0, ap (λ (l : List ℕ). slice_get l 0) k.2)

pub neither : (a b : Bool) → not (a || b) ≡ true → (a ≡ false) × (b ≡ false)
neither true b e = cc
neither false true e = cc
neither false false e = (refl, refl)
