-- Lists turned round, and what comes first.
use Rattle.std.proofs.Common.{◌≡◌, ℕ, zero, suc, ◌+◌, ◌-◌, ◌<◌, List, [], ◌∷◌, ◌++◌, reverse, take, refl, ap, sym, ◌∙◌, arith, append_assoc, None, Some}
use Rattle.std.specs.List.{slice_get, flat_map}
use Rattle.std.proofs.lemmas.List.{reverse-append}
use Rattle.plan_expr.proofs.ListLemmas.{take-next}

-- a front that is turned round begins with its last element
pub reverse-take : {A : Type 0} (xs : List A) (n : ℕ) (x : A) → 0 < n → slice_get xs (n - 1) ≡ Some x → reverse (take n xs) ≡ x ∷ reverse (take (n - 1) xs)
reverse-take xs n x h e =
    let back : n ≡ (n - 1) + 1 = omega arith in
    ap (λ k. reverse (take k xs)) back ∙ ap reverse (take-next xs (n - 1) x e) ∙ reverse-append (take (n - 1) xs) (x ∷ [])

-- what comes of a list, round what comes of one element
pub flat_map-split : {A B : Type 0} (f : A → List B) (xs : List A) (i : ℕ) (x : A) → slice_get xs i ≡ Some x → (rest : List B) × (flat_map f xs ≡ flat_map f (take i xs) ++ (f x ++ rest))
flat_map-split f [] i x e = cc
flat_map-split f (y ∷ xs) zero x e =
    let same : y ≡ x = cc in
    (flat_map f xs, ap (λ z. f z ++ flat_map f xs) same)
flat_map-split f (y ∷ xs) (suc i) x e =
    let more = flat_map-split f xs i x e in
    (more.0, ap (λ zs. f y ++ zs) more.1 ∙ sym (append_assoc (f y) (flat_map f (take i xs)) (f x ++ more.0)))

-- the first of a list is the first of a longer one
pub first_stays : {A : Type 0} (xs ys : List A) (x : A) → slice_get xs 0 ≡ Some x → slice_get (xs ++ ys) 0 ≡ Some x
first_stays [] ys x e = cc
first_stays (y ∷ xs) ys x e = e

-- a list without a first one is empty
pub none_first : {A : Type 0} (xs : List A) → slice_get xs 0 ≡ None → xs ≡ []
none_first [] e = refl
none_first (x ∷ xs) e = cc
