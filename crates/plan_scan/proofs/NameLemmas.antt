-- Lists of names, each once.
use Rattle.std.proofs.Common.{◌≡◌, ◌+◌, ◌≤◌, ◌++◌, ℕ, zero, suc, Bool, true, false, cond, ◌||◌, List, [], ◌∷◌, take, length, take_all, Some, refl, sym, ap, ◌∙◌, add-one}
use Rattle.std.specs.List.{slice_get}
use Rattle.std.specs.Str.{bytes_eq}
use Rattle.std.proofs.lemmas.Slice.Eq.{bytes_eq-Decides}
use Rattle.plan_core.specs.Names.{has, with_name, with_names}

-- the bytes of a name
abbrev Text : Type 0
Text = List ℕ

-- one name more
pub names-next : (done names : List Text) (i : ℕ) (a : Text) → slice_get names i ≡ Some a → with_name (with_names done (take i names)) a ≡ with_names done (take (suc i) names)
names-next done [] i a e = cc
names-next done (b ∷ names) zero a e = let same : b ≡ a = cc in ap (with_name done) (sym same)
names-next done (b ∷ names) (suc i) a e = names-next (with_name done b) names i a e

or_assoc : (x y z : Bool) → ((x || y) || z) ≡ (x || (y || z))
or_assoc true y z = refl
or_assoc false y z = refl

or_false : (x : Bool) → x ≡ (x || false)
or_false true = refl
or_false false = refl

has-append : (xs ys : List Text) (a : Text) → has (xs ++ ys) a ≡ (has xs a || has ys a)
has-append [] ys a = refl
has-append (x ∷ xs) ys a = ap (λ (t : Bool). bytes_eq a x || t) (has-append xs ys a) ∙ sym (or_assoc (bytes_eq a x) (has xs a) (has ys a))

has-with : (xs : List Text) (b a : Text) → has (with_name xs b) a ≡ (has xs a || bytes_eq a b)
has-with xs b a = at (has xs b) refl
  where
    there : (t : Bool) → bytes_eq a b ≡ t → has xs b ≡ true → has xs a ≡ (has xs a || t)
    there true e h = let same : a ≡ b = (bytes_eq-Decides a b).0 e in ap (has xs) same ∙ h ∙ sym (ap (λ (t : Bool). t || true) (ap (has xs) same ∙ h))
    there false e h = or_false (has xs a)

    at : (t : Bool) → has xs b ≡ t → has (cond t xs (xs ++ b ∷ [])) a ≡ (has xs a || bytes_eq a b)
    at true h = there (bytes_eq a b) refl h
    at false h = has-append xs (b ∷ []) a ∙ ap (λ (t : Bool). has xs a || t) (sym (or_false (bytes_eq a b)))

has-with_names : (xs ys : List Text) (a : Text) → has (with_names xs ys) a ≡ (has xs a || has ys a)
has-with_names xs [] a = or_false (has xs a)
has-with_names xs (y ∷ ys) a = has-with_names (with_name xs y) ys a ∙ ap (λ (b : Bool). b || has ys a) (has-with xs y a) ∙ or_assoc (has xs a) (bytes_eq a y) (has ys a)

-- names that are taken each once are the same names
pub has-once : (names : List Text) (a : Text) → has (with_names [] names) a ≡ has names a
has-once names a = has-with_names [] names a

-- a name more is put to those that are there
pub names-step : (done names : List Text) (i : ℕ) (a b : Text) → done ≡ with_names [] (take i names) → slice_get names i ≡ Some a → b ≡ a → with_name done b ≡ with_names [] (take (i + 1) names)
names-step done names i a b is here e = rw (is, e, add-one) (names-next [] names i a here)

-- all are there
pub names-all : (done names : List Text) (i : ℕ) → done ≡ with_names [] (take i names) → length names ≤ i → done ≡ with_names [] names
names-all done names i is h = is ∙ ap (with_names []) (take_all i names h)
