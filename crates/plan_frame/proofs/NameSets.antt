-- Which names are in a list, and lists of names in which none stands twice.
use Rattle.std.proofs.Common.{◌≡◌, Bool, true, false, cond, ◌||◌, List, [], ◌∷◌, ◌++◌, Some, refl, sym, ap, ◌∙◌, inl, inr, ◌⊎◌, ⊎_elim, is_some}
use Rattle.std.specs.List.{IsDistinct, AllByRecursion}
use Rattle.std.specs.Str.{bytes_eq}
use Rattle.std.proofs.lemmas.Bool.{or_left, or_right, or_cases}
use Rattle.std.proofs.lemmas.List.{map-append}
use Rattle.std.proofs.lemmas.Slice.Eq.{bytes_eq-Decides}
use Rattle.plan_core.specs.Names.{has, with_name, with_names, AreDistinct}
use Rattle.plan_core.specs.Columns.{Columns, names_of, type_of}
use Rattle.plan_core.specs.declared.data_type.DataType.{DataType}
use Rattle.plan_core.proofs.ColumnLemmas.{flip_false}
use Rattle.plan_expr.specs.Leaves.{Name}

pub named : (a b : Name) → bytes_eq a b ≡ true → a ≡ b
named a b e = (bytes_eq-Decides a b).0 e

pub same_named : (a : Name) → bytes_eq a a ≡ true
same_named a = (bytes_eq-Decides a a).1 refl

pub has_cons : (b : Name) (bs : List Name) (a : Name) → has (b ∷ bs) a ≡ true → (a ≡ b) ⊎ (has bs a ≡ true)
has_cons b bs a e = ⊎_elim (λ h. inl (named a b h)) (λ h. inr h) (or_cases (bytes_eq a b) (has bs a) e)

pub has_first : (a : Name) (names : List Name) → has (a ∷ names) a ≡ true
has_first a names = or_left (bytes_eq a a) (has names a) (same_named a)

pub has_later : (b : Name) (names : List Name) (a : Name) → has names a ≡ true → has (b ∷ names) a ≡ true
has_later b names a h = or_right (bytes_eq a b) (has names a) h

or_assoc : (x y z : Bool) → ((x || y) || z) ≡ (x || (y || z))
or_assoc true y z = refl
or_assoc false y z = refl

pub has-append : (xs ys : List Name) (a : Name) → has (xs ++ ys) a ≡ (has xs a || has ys a)
has-append [] ys a = refl
has-append (x ∷ xs) ys a = ap (λ (t : Bool). bytes_eq a x || t) (has-append xs ys a) ∙ sym (or_assoc (bytes_eq a x) (has xs a) (has ys a))

pub has_front : (xs ys : List Name) (a : Name) → has xs a ≡ true → has (xs ++ ys) a ≡ true
has_front xs ys a h = has-append xs ys a ∙ or_left (has xs a) (has ys a) h

pub has_back : (xs ys : List Name) (a : Name) → has ys a ≡ true → has (xs ++ ys) a ≡ true
has_back xs ys a h = has-append xs ys a ∙ or_right (has xs a) (has ys a) h

pub has_either : (xs ys : List Name) (a : Name) → has (xs ++ ys) a ≡ true → (has xs a ≡ true) ⊎ (has ys a ≡ true)
has_either xs ys a h = or_cases (has xs a) (has ys a) (sym (has-append xs ys a) ∙ h)

-- a name is one of the columns exactly where it has a type there
some_at : (c : Name × DataType) (cs : Columns) (a : Name) (t : Bool) → is_some (type_of cs a) ≡ has (names_of cs) a → is_some (cond t (Some c.1) (type_of cs a)) ≡ (t || has (names_of cs) a)
some_at c cs a true r = refl
some_at c cs a false r = r

pub some-type_of : (s : Columns) (a : Name) → is_some (type_of s a) ≡ has (names_of s) a
some-type_of [] a = refl
some-type_of (c ∷ cs) a = some_at c cs a (bytes_eq a c.0) (some-type_of cs a)

-- one name more

with_at : (P : List Name → Type 0) (xs : List Name) (b : Name) (t : Bool) → (t ≡ true → P xs) → (t ≡ false → P (xs ++ b ∷ [])) → P (cond t xs (xs ++ b ∷ []))
with_at P xs b true p q = p refl
with_at P xs b false p q = q refl

pub keeps_name : (xs : List Name) (b a : Name) → has xs a ≡ true → has (with_name xs b) a ≡ true
keeps_name xs b a h = with_at (λ (l : List Name). has l a ≡ true) xs b (has xs b) (λ e. h) (λ e. has_front xs (b ∷ []) a h)

pub adds_name : (xs : List Name) (b : Name) → has (with_name xs b) b ≡ true
adds_name xs b = at (has xs b) refl
  where
    at : (t : Bool) → has xs b ≡ t → has (cond t xs (xs ++ b ∷ [])) b ≡ true
    at true e = e
    at false e = has_back xs (b ∷ []) b (has_first b [])

pub only : (b a : Name) → has (b ∷ []) a ≡ true → a ≡ b
only b a h = ⊎_elim (λ e. e) (λ e. none e) (has_cons b [] a h)
  where
    none : false ≡ true → a ≡ b
    none e = cc

pub from_name : (xs : List Name) (b a : Name) → has (with_name xs b) a ≡ true → (has xs a ≡ true) ⊎ (a ≡ b)
from_name xs b a = at (has xs b)
  where
    at : (t : Bool) → has (cond t xs (xs ++ b ∷ [])) a ≡ true → (has xs a ≡ true) ⊎ (a ≡ b)
    at true h = inl h
    at false h = ⊎_elim (λ e. inl e) (λ e. inr (only b a e)) (has_either xs (b ∷ []) a h)

all_push : (P : Name → Type 0) (xs : List Name) (b : Name) → AllByRecursion P xs → P b → AllByRecursion P (xs ++ b ∷ [])
all_push P [] b h p = (p, tt)
all_push P (x ∷ xs) b h p = (h.0, all_push P xs b h.1 p)

none_left : (x y : Bool) → (x || y) ≡ false → x ≡ false
none_left true y e = e
none_left false y e = refl

none_right : (x y : Bool) → (x || y) ≡ false → y ≡ false
none_right true y e = cc
none_right false y e = e

distinct_push : (xs : List Name) (b : Name) → has xs b ≡ false → AreDistinct xs → AreDistinct (xs ++ b ∷ [])
unfolding IsDistinct
distinct_push [] b e h = (tt, tt)
distinct_push (x ∷ xs) b e h = (
  all_push (λ (y : Name). bytes_eq x y ≡ false) xs b h.0 (flip_false b x (none_left (bytes_eq b x) (has xs b) e)),
  distinct_push xs b (none_right (bytes_eq b x) (has xs b) e) h.1,
)

pub distinct_name : (xs : List Name) (b : Name) → AreDistinct xs → AreDistinct (with_name xs b)
distinct_name xs b h = at (has xs b) refl
  where
    at : (t : Bool) → has xs b ≡ t → AreDistinct (cond t xs (xs ++ b ∷ []))
    at true e = h
    at false e = distinct_push xs b e h

-- more names

pub keeps_names : (xs ys : List Name) (a : Name) → has xs a ≡ true → has (with_names xs ys) a ≡ true
keeps_names xs [] a h = h
keeps_names xs (y ∷ ys) a h = keeps_names (with_name xs y) ys a (keeps_name xs y a h)

pub adds_names : (xs ys : List Name) (a : Name) → has ys a ≡ true → has (with_names xs ys) a ≡ true
adds_names xs [] a h = cc
adds_names xs (y ∷ ys) a h = ⊎_elim
    (λ e. keeps_names (with_name xs y) ys a (ap (λ (x : Name). has (with_name xs y) x) e ∙ adds_name xs y))
    (λ e. adds_names (with_name xs y) ys a e)
    (has_cons y ys a h)

pub from_names : (xs ys : List Name) (a : Name) → has (with_names xs ys) a ≡ true → (has xs a ≡ true) ⊎ (has ys a ≡ true)
from_names xs [] a h = inl h
from_names xs (y ∷ ys) a h = ⊎_elim
    (λ e. ⊎_elim (λ f. inl f) (λ f. inr (ap (λ (x : Name). has (y ∷ ys) x) f ∙ has_first y ys)) (from_name xs y a e))
    (λ e. inr (has_later y ys a e))
    (from_names (with_name xs y) ys a h)

pub distinct_names : (xs ys : List Name) → AreDistinct xs → AreDistinct (with_names xs ys)
distinct_names xs [] h = h
distinct_names xs (y ∷ ys) h = distinct_names (with_name xs y) ys (distinct_name xs y h)

pub distinct_none : AreDistinct []
unfolding IsDistinct
distinct_none = tt

-- the first name isn't among the others
differ : (x : Name) (ys : List Name) → AllByRecursion (λ (y : Name). bytes_eq x y ≡ false) ys → has ys x ≡ false
differ x [] h = refl
differ x (y ∷ ys) h = rw (h.0) (differ x ys h.1)

pub distinct_cons : (x : Name) (xs : List Name) → AreDistinct (x ∷ xs) → (has xs x ≡ false) × AreDistinct xs
unfolding IsDistinct
distinct_cons x xs h = (differ x xs h.0, h.1)

-- each name once, and no other
pub has-once : (names : List Name) (a : Name) → has (with_names [] names) a ≡ has names a
has-once names a = at (has (with_names [] names) a) (has names a) refl refl
  where
    at : (t u : Bool) → has (with_names [] names) a ≡ t → has names a ≡ u → t ≡ u
    at true true p q = refl
    at false false p q = refl
    at false true p q = sym p ∙ adds_names [] names a q
    at true false p q = ⊎_elim (λ e. sym e) (λ e. sym e ∙ q) (from_names [] names a p)

-- the names of columns one after another
pub names-append : (s t : Columns) → names_of (s ++ t) ≡ names_of s ++ names_of t
names-append s t = map-append (λ (c : Name × DataType). c.0) s t
