-- Places that pass a test, and numbers one after another.
use Rattle.std.proofs.Common.{◌≡◌, ◌++◌, ◌+◌, ◌-◌, ◌≤◌, ℕ, zero, suc, Bool, true, false, cond, List, [], ◌∷◌, refl, ap, sym, ◌∙◌, arith, add-one}
use Rattle.std.specs.List.{range_with_len}
use Rattle.plan_frame.specs.Meaning.{places_from}

-- the place after so many from a first one on, if it passes
abbrev pub here : (ℕ → Bool) → ℕ → List ℕ
here test i = cond (test i) (i ∷ []) []

cond-append : (b : Bool) (i : ℕ) (xs ys : List ℕ) → cond b (i ∷ (xs ++ ys)) (xs ++ ys) ≡ cond b (i ∷ xs) xs ++ ys
cond-append true i xs ys = refl
cond-append false i xs ys = refl

cond-none : (b : Bool) (i : ℕ) → cond b (i ∷ []) [] ≡ cond b (i ∷ []) [] ++ []
cond-none true i = refl
cond-none false i = refl

places-more : (test : ℕ → Bool) (i n : ℕ) → places_from test i (suc n) ≡ places_from test i n ++ here test (i + n)
places-more test i zero = let q : i + 0 ≡ i = omega arith in rw q refl
places-more test i (suc n) =
    let q : i + suc n ≡ suc i + n = omega arith in
    ap (λ (xs : List ℕ). cond (test i) (i ∷ xs) xs) (places-more test (suc i) n)
    ∙ cond-append (test i) i (places_from test (suc i) n) (here test (suc i + n))
    ∙ ap (λ (k : ℕ). cond (test i) (i ∷ places_from test (suc i) n) (places_from test (suc i) n) ++ here test k) (sym q)

-- the places that pass, with one more to be looked at
pub places-next : (test : ℕ → Bool) (n : ℕ) (b : Bool) → test n ≡ b → places_from test 0 (n + 1) ≡ places_from test 0 n ++ cond b (n ∷ []) []
places-next test n b e =
    let q : 0 + n ≡ n = omega arith in
    ap (places_from test 0) (add-one n) ∙ places-more test 0 n ∙ ap (λ (k : ℕ). places_from test 0 n ++ here test k) q ∙ ap (λ (c : Bool). places_from test 0 n ++ cond c (n ∷ []) []) e

-- one number more
pub range-more : (a n : ℕ) → range_with_len a (suc n) ≡ range_with_len a n ++ (a + n) ∷ []
range-more a zero = let q : a + 0 ≡ a = omega arith in rw q refl
range-more a (suc n) =
    let q : a + suc n ≡ (a + 1) + n = omega arith in
    ap (λ (l : List ℕ). a ∷ l) (range-more (a + 1) n) ∙ ap (λ (k : ℕ). a ∷ (range_with_len (a + 1) n ++ k ∷ [])) (sym q)

-- the numbers up to one, and that one
pub range-next : (a r : ℕ) → a ≤ r → range_with_len a (r + 1 - a) ≡ range_with_len a (r - a) ++ r ∷ []
range-next a r le =
    let more : r + 1 - a ≡ suc (r - a) = omega (arith, le) in
    let here : a + (r - a) ≡ r = omega (arith, le) in
    ap (range_with_len a) more ∙ range-more a (r - a) ∙ ap (λ (k : ℕ). range_with_len a (r - a) ++ k ∷ []) here
