-- Columns beside one another: two have one name exactly where a name comes twice among all.
use Rattle.std.proofs.Common.{◌≡◌, ℕ, zero, suc, Bool, true, false, not, ◌&&◌, ◌||◌, List, [], ◌∷◌, ◌++◌, take, Some, refl, sym, ap, ap₂, ◌∙◌, subst}
use Rattle.std.specs.Str.{bytes_eq}
use Rattle.std.specs.List.{IsDistinct, AllByRecursion, slice_get}
use Rattle.std.proofs.lemmas.List.{map-append}
use Rattle.std.proofs.lemmas.Slice.Eq.{bytes_eq-Decides}
use Rattle.plan_core.specs.declared.data_type.DataType.{DataType}
use Rattle.plan_core.specs.Columns.{Columns, HasDistinctNames, names_of}
use Rattle.plan_core.specs.Names.{has}
use Rattle.plan_options.specs.Schemas.{all_columns, SharesName}
use Rattle.plan_expr.specs.Leaves.{Name}
use Rattle.plan_frame.specs.Beside.{are_apart, in_a_row, share_no_name, side_by_side}
use Rattle.plan_frame.proofs.BesideLemmas.{beside-distinct}
use Rattle.plan_check.proofs.ReadLemmas.{has-append}

row-are : (ss : List Columns) → all_columns ss ≡ in_a_row ss
row-are [] = refl
row-are (s ∷ ss) = ap (λ (t : Columns). s ++ t) (row-are ss)

has-beside : (s t : Columns) (a : Name) → has (names_of (s ++ t)) a ≡ (has (names_of s) a || has (names_of t) a)
has-beside s t a = ap (λ (l : List Name). has l a) (map-append (λ (c : Name × DataType). c.0) s t) ∙ has-append (names_of s) (names_of t) a

and_false : (b : Bool) → (b && false) ≡ false
and_false true = refl
and_false false = refl

or_true : (b : Bool) → (b || true) ≡ true
or_true true = refl
or_true false = refl

-- columns whose names are distinct are beside one another as they are in a row
pub beside-are : (ss : List Columns) → HasDistinctNames (all_columns ss) → all_columns ss ≡ side_by_side ss
beside-are ss h = row-are ss ∙ sym (beside-distinct ss (subst HasDistinctNames (row-are ss) h))

-- where no name comes twice

absent : (x : Name) (s t : Columns) → AllByRecursion (λ (y : Name). bytes_eq x y ≡ false) (names_of (s ++ t)) → has (names_of t) x ≡ false
absent x [] [] h = refl
absent x [] (c ∷ t) h = ap₂ (λ (a b : Bool). a || b) h.0 (absent x [] t h.1)
absent x (d ∷ s) t h = absent x s t h.1

none_shared : (s t : Columns) → HasDistinctNames (s ++ t) → share_no_name s t ≡ true
unfolding IsDistinct
none_shared [] t h = refl
none_shared (c ∷ s) t h = ap₂ (λ (a b : Bool). not a && b) (absent c.0 s t h.0) (none_shared s t h.1)

distinct_back : (s t : Columns) → HasDistinctNames (s ++ t) → HasDistinctNames t
unfolding IsDistinct
distinct_back [] t h = h
distinct_back (c ∷ s) t h = distinct_back s t h.1

distinct_apart : (ss : List Columns) → HasDistinctNames (in_a_row ss) → are_apart ss ≡ true
unfolding are_apart
distinct_apart [] h = refl
distinct_apart (s ∷ ss) h = ap₂ (λ (a b : Bool). a && b) (none_shared s (in_a_row ss) h) (distinct_apart ss (distinct_back s (in_a_row ss) h))

-- columns whose names are distinct are apart
pub all_apart : (ss : List Columns) → HasDistinctNames (all_columns ss) → are_apart ss ≡ true
all_apart ss h = distinct_apart ss (rw (row-are ss) at h)

-- where a name comes twice

one_shared : (s t : Columns) (a : Name) → has (names_of s) a ≡ true → has (names_of t) a ≡ true → share_no_name s t ≡ false
one_shared [] t a h k = cc
one_shared (c ∷ s) t a h k = go (bytes_eq a c.0) refl (one_shared s t a) h
  where
    go : (b : Bool) → bytes_eq a c.0 ≡ b → (has (names_of s) a ≡ true → has (names_of t) a ≡ true → share_no_name s t ≡ false) → (b || has (names_of s) a) ≡ true → (not (has (names_of t) c.0) && share_no_name s t) ≡ false
    go true e rest g = let same : a ≡ c.0 = (bytes_eq-Decides a c.0).0 e in let there : has (names_of t) c.0 ≡ true = sym (ap (has (names_of t)) same) ∙ k in ap (λ (b : Bool). not b && share_no_name s t) there
    go false e rest g = ap (λ (b : Bool). not (has (names_of t) c.0) && b) (rest g k) ∙ and_false (not (has (names_of t) c.0))

-- a name of one is among those of all
among : (ss : List Columns) (i : ℕ) (s : Columns) (a : Name) → slice_get ss i ≡ Some s → has (names_of s) a ≡ true → has (names_of (in_a_row ss)) a ≡ true
among [] i s a e h = cc
among (t ∷ ss) zero s a e h = let same : t ≡ s = cc in has-beside t (in_a_row ss) a ∙ ap (λ (b : Bool). b || has (names_of (in_a_row ss)) a) (ap (λ (u : Columns). has (names_of u) a) same ∙ h)
among (t ∷ ss) (suc i) s a e h = has-beside t (in_a_row ss) a ∙ ap (λ (b : Bool). has (names_of t) a || b) (among ss i s a e h) ∙ or_true (has (names_of t) a)

-- columns with a name of some before them aren't apart
pub not_apart : (ss : List Columns) (i : ℕ) (s : Columns) → slice_get ss i ≡ Some s → SharesName s (all_columns (take i ss)) → are_apart ss ≡ false
unfolding are_apart
not_apart [] i s e shares = cc
not_apart (t ∷ ss) zero s e shares = let no = shares.2 in cc
not_apart (t ∷ ss) (suc i) s e shares = go (has (names_of t) shares.0) refl (sym (has-beside t (all_columns (take i ss)) shares.0) ∙ shares.2) (not_apart ss i s e)
  where
    go : (b : Bool) → has (names_of t) shares.0 ≡ b → (b || has (names_of (all_columns (take i ss))) shares.0) ≡ true → (SharesName s (all_columns (take i ss)) → are_apart ss ≡ false) → (share_no_name t (in_a_row ss) && are_apart ss) ≡ false
    go true q g rest = ap (λ (b : Bool). b && are_apart ss) (one_shared t (in_a_row ss) shares.0 q (among ss i s shares.0 e shares.1))
    go false q g rest = ap (λ (b : Bool). share_no_name t (in_a_row ss) && b) (rest (shares.0, shares.1, g)) ∙ and_false (share_no_name t (in_a_row ss))
