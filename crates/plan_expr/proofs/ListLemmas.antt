-- Lists, one element further, and what is found in them.
use Rattle.std.proofs.Common.{Bor, sym, Bool, true, false, not, refl, ◌&&◌, ◌||◌, zero, suc, length, get_or, subst, ◌≡◌, ℕ, ◌+◌, ◌<◌, List, [], ◌∷◌, ◌++◌, take, ap, ◌∙◌, arith, append-nil, None, Some, ◌≤◌}
use Rattle.std.specs.List.{slice_get, flat_map, All, Any, list_any, list_all}
use Rattle.std.specs.Fn.{Shared, FnReturnsAt}
use Rattle.std.specs.Bool.{OnTrue, OnFalse}
use Rattle.std.proofs.lemmas.List.Elements.{All-weaker}
use Rattle.std.proofs.lemmas.List.Folds.{list_any-from_Any, list_any_none}
use Rattle.std.proofs.lemmas.List.{take_more}
use Rattle.std.proofs.lemmas.List.Concat.{flat_map-append}
use Rattle.std.proofs.lemmas.Option.{slice_get_within, get_or_from_slice_get}

-- a front that is one longer
pub take-next : {A : Type 0} (xs : List A) (i : ℕ) (x : A) → slice_get xs i ≡ Some x → take (i + 1) xs ≡ take i xs ++ x ∷ []
take-next xs i x e = take_more xs i x (slice_get_within xs i x e) ∙ ap (λ y. take i xs ++ y ∷ []) (get_or_from_slice_get xs i x x e)

-- what comes of a front that is one longer
pub flat_map-next : {A B : Type 0} (f : A → List B) (xs : List A) (i : ℕ) (x : A) → slice_get xs i ≡ Some x → flat_map f (take (i + 1) xs) ≡ flat_map f (take i xs) ++ f x
flat_map-next f xs i x e =
    ap (flat_map f) (take-next xs i x e)
    ∙ flat_map-append f (take i xs) (x ∷ [])
    ∙ ap (λ ys. flat_map f (take i xs) ++ ys) (append-nil (f x))

-- an element that is found stands in a longer list too
pub any_more : {A : Type 0} (P : A → Type 0) (x : A) (xs : List A) → Any P xs → Any P (x ∷ xs)
any_more P x xs a = (suc a.0, a.1, omega arith, a.3, a.4)

any_first_at : {A : Type 0} (P : A → Type 0) (xs ys : List A) (k : ℕ) (x : A) → k < length xs → get_or xs k x ≡ x → P x → Any P (xs ++ ys)
any_first_at P [] ys k x lt e p = absurd (omega arith)
any_first_at P (y ∷ xs) ys zero x lt e p = (zero, x, omega arith, e, p)
any_first_at P (y ∷ xs) ys (suc k) x lt e p = any_more P y (xs ++ ys) (any_first_at P xs ys k x (omega arith) e p)

pub any_first : {A : Type 0} (P : A → Type 0) (xs ys : List A) → Any P xs → Any P (xs ++ ys)
any_first P xs ys a = any_first_at P xs ys a.0 a.1 a.2 a.3 a.4

pub any_later : {A : Type 0} (P : A → Type 0) (xs ys : List A) → Any P ys → Any P (xs ++ ys)
any_later P [] ys a = a
any_later P (x ∷ xs) ys a = any_more P x (xs ++ ys) (any_later P xs ys a)

-- an element that is found in what comes of one
pub any_flat_map : {A B : Type 0} (P : B → Type 0) (f : A → List B) (xs : List A) (i : ℕ) (x : A) → slice_get xs i ≡ Some x → Any P (f x) → Any P (flat_map f xs)
any_flat_map P f [] i x e a = cc
any_flat_map P f (y ∷ xs) zero x e a =
    let same : x ≡ y = cc in
    any_first P (f y) (flat_map f xs) (subst (λ z. Any P (f z)) same a)
any_flat_map P f (y ∷ xs) (suc i) x e a = any_later P (f y) (flat_map f xs) (any_flat_map P f xs i x e a)

-- what calls of a function answer of a list, where each answer is that of a test
pub answers_any : {A F : Type 0} (p : A → Bool) (g : Shared F (Bor A × Unit {0}) Bool) (f : F) (xs : List A) (r : Bool) → OnTrue r (Any (λ x. FnReturnsAt g f x true) xs) → OnFalse r (All (λ x. FnReturnsAt g f x false) xs)
    → ((x : A) (b : Bool) → FnReturnsAt g f x b → p x ≡ b) → r ≡ list_any p xs
answers_any p g f xs true found absent says =
    let there : Any (λ x. p x ≡ true) xs = (found.0, found.1, found.2, found.3, says found.1 true found.4) in
    sym (list_any-from_Any p xs there)
answers_any p g f xs false found absent says = sym (list_any_none p xs (All-weaker (λ x. FnReturnsAt g f x false) (λ x. p x ≡ false) (λ x r. says x false r) xs absent))

-- a place without an element is past the end
pub past : {A : Type 0} (xs : List A) (i : ℕ) → slice_get xs i ≡ None → length xs ≤ i
past [] i e = omega arith
past (x ∷ xs) zero e = cc
past (x ∷ xs) (suc i) e = let h = past xs i e in omega (arith, h)

one_more : (b c d : Bool) → not c ≡ d → not (not b || c) ≡ (b && d)
one_more true c d e = e
one_more false c d e = refl

-- none fails a test exactly where all pass it
pub none-any : {A : Type 0} (test : A → Bool) (xs : List A) → not (list_any (λ (x : A). not (test x)) xs) ≡ list_all test xs
none-any test [] = refl
none-any {A = A} test (x ∷ xs) = one_more (test x) (list_any (λ (y : A). not (test y)) xs) (list_all test xs) (none-any test xs)
