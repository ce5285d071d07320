-- Names among others.
use Rattle.std.proofs.Common.{◌≡◌, ◌∙◌, ◌+◌, ℕ, zero, suc, Bool, true, false, cond, List, [], ◌∷◌, ◌++◌, map, take, Option, Some, is_some, refl, sym, ap, subst, ⊎_elim}
use Rattle.std.specs.List.{slice_get}
use Rattle.std.proofs.lemmas.List.{take-map}
use Rattle.plan_core.specs.Columns.{Columns, names_of}
use Rattle.plan_core.specs.Names.{has, with_name, with_names}
use Rattle.plan_core.specs.declared.data_type.DataType.{DataType}
use Rattle.plan_expr.specs.Leaves.{Name}
use Rattle.plan_frame.proofs.NameSets.{has_either, has_first, has_later, only, some-type_of}
use Rattle.plan_pruned.proofs.ListSteps.{take-next}
use Rattle.plan_prune_names.specs.declared.known_columns.KnownColumns.{KnownColumns}
use Rattle.plan_prune_names.specs.Known.{Shows}
use Rattle.plan_prune_names.specs.Among.{AreAmong}

-- one name more
one-more : (names xs : List Name) (a : Name) → AreAmong names xs → has names a ≡ true → AreAmong names (xs ++ a ∷ [])
one-more names xs a h here b e = ⊎_elim (h b) (λ (k : has (a ∷ []) b ≡ true). subst (λ (c : Name). has names c ≡ true) (sym (only a b k)) here) (has_either xs (a ∷ []) b e)

pub among-next : {A : Type 0} (f : A → Name) (names : List Name) (xs : List A) (i : ℕ) (a : Name) → slice_get (map f xs) i ≡ Some a → has names a ≡ true → AreAmong names (map f (take i xs)) → AreAmong names (map f (take (i + 1) xs))
among-next f names xs i a e here h =
    subst (AreAmong names) (sym (take-next (map f xs) i a e) ∙ take-map f (i + 1) xs)
    (one-more names (take i (map f xs)) a (subst (AreAmong names) (sym (take-map f i xs)) h) here)

-- the name at a place is among the names
has-at : (xs : List Name) (i : ℕ) (a : Name) → slice_get xs i ≡ Some a → has xs a ≡ true
has-at [] i a e = cc
has-at (x ∷ xs) zero a e = let q : x ≡ a = cc in subst (λ (b : Name). has (x ∷ xs) b ≡ true) q (has_first x xs)
has-at (x ∷ xs) (suc i) a e = has_later x xs a (has-at xs i a e)

pub lacks-one : (names xs : List Name) (i : ℕ) (a : Name) → slice_get xs i ≡ Some a → has names a ≡ false → AreAmong names xs → ⊥
lacks-one names xs i a e bad h = let good : has names a ≡ true = h a (has-at xs i a e) in cc

-- names with others that are among them
with-there : (names : List Name) (a : Name) → has names a ≡ true → with_name names a ≡ names
with-there names a h = ap (λ (t : Bool). cond t names (names ++ a ∷ [])) h

all-there : (names xs : List Name) → AreAmong names xs → with_names names xs ≡ names
all-there names [] h = refl
all-there names (x ∷ xs) h =
    ap (λ (ns : List Name). with_names ns xs) (with-there names x (h x (has_first x xs)))
    ∙ all-there names xs (λ a e. h a (has_later x xs a e))

-- where the names of all columns are among names, those of any that are the same columns are
pub columns-among : (names : List Name) (o : KnownColumns) (s : Columns) → Shows o s → AreAmong names (names_of o.types) → with_names names (names_of s) ≡ names
columns-among names o s shows h =
    all-there names (names_of s)
    (λ a e.
    h a (sym (some-type_of o.types a) ∙ ap (λ (d : Option DataType). is_some d) (shows a) ∙ some-type_of s a ∙ e))
