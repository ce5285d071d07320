-- A set of names has the names that the list has that it was made from.
use Rattle.std.proofs.Common.{◌≡◌, Bool, true, false, not, ◌&&◌, ◌||◌, cond, List, [], ◌∷◌, ◌++◌, Option, Some, None, option_map, refl, sym, ap, ap₂, ◌∙◌, if◌then◌else◌}
use Rattle.std.specs.Str.{bytes_eq}
use Rattle.std.proofs.lemmas.Slice.Eq.{bytes_eq-Decides}
use Rattle.plan_core.specs.declared.data_type.DataType.{DataType}
use Rattle.plan_core.specs.Columns.{Columns, names_of, type_of}
use Rattle.plan_core.specs.Names.{has, with_name, with_names}
use Rattle.plan_expr.specs.Leaves.{Name}
use Rattle.plan_meaning.specs.Checks.{is_column}
use Rattle.plan_files.specs.FileColumns.{plain_columns}
use Rattle.plan_files.specs.FileReads.{is_read, is_told}
use Rattle.plan_files.proofs.FileLemmas.{known_none, known_there}
use Rattle.plan_frame.proofs.NameSets.{named}
use Rattle.plan_meaning.specs.Typing.{all_read, put_out_checks}
use Rattle.plan_check_parts.proofs.EachLemmas.{each-same}

or_assoc : (a b c : Bool) → ((a || b) || c) ≡ (a || (b || c))
or_assoc true b c = refl
or_assoc false b c = refl

pub or_false : (a : Bool) → (a || false) ≡ a
or_false true = refl
or_false false = refl

pub has-append : (xs ys : List Name) (a : Name) → has (xs ++ ys) a ≡ (has xs a || has ys a)
has-append [] ys a = refl
has-append (x ∷ xs) ys a = ap (λ (b : Bool). bytes_eq a x || b) (has-append xs ys a) ∙ sym (or_assoc (bytes_eq a x) (has xs a) (has ys a))

-- a name that equals one of the names is one
has-same : (xs : List Name) (a x : Name) → has xs x ≡ true → bytes_eq a x ≡ true → has xs a ≡ true
has-same xs a x h e = let q : a ≡ x = (bytes_eq-Decides a x).0 e in ap (has xs) q ∙ h

has-with : (xs : List Name) (x a : Name) → has (with_name xs x) a ≡ (has xs a || bytes_eq a x)
has-with xs x a = go (has xs x) refl
  where
    there : (b c : Bool) → (c ≡ true → b ≡ true) → b ≡ (b || c)
    there true c h = refl
    there false true h = let u = h refl in cc
    there false false h = refl

    go : (b : Bool) → has xs x ≡ b → has (if b then xs else xs ++ x ∷ []) a ≡ (has xs a || bytes_eq a x)
    go true h = there (has xs a) (bytes_eq a x) (λ e. has-same xs a x h e)
    go false h = has-append xs (x ∷ []) a ∙ ap (λ (b : Bool). has xs a || b) (or_false (bytes_eq a x))

has-with_names : (xs ys : List Name) (a : Name) → has (with_names xs ys) a ≡ (has xs a || has ys a)
has-with_names xs [] a = sym (or_false (has xs a))
has-with_names xs (y ∷ ys) a = has-with_names (with_name xs y) ys a ∙ ap (λ (b : Bool). b || has ys a) (has-with xs y a) ∙ or_assoc (has xs a) (bytes_eq a y) (has ys a)

abbrev pub as_set : Option (List Name) → Option (List Name)
as_set reads = option_map (with_names []) reads

reads-same : (reads : Option (List Name)) (a : Name) → is_told (as_set reads) a ≡ is_told reads a
reads-same None a = refl
reads-same (Some names) a = has-with_names [] names a

all-same : (reads : Option (List Name)) (cs : Columns) → all_read (as_set reads) cs ≡ all_read reads cs
all-same reads [] = refl
all-same reads (c ∷ cs) = ap₂ (λ (a b : Bool). a && b) (reads-same reads c.0) (all-same reads cs)

-- a list and the set of its names are checked alike
pub put_out_same : (output : Option Columns) (reads : Option (List Name)) (row plain file : Columns) → put_out_checks output (as_set reads) row plain file ≡ put_out_checks output reads row plain file
unfolding put_out_checks
put_out_same None reads row plain file = rw (all-same reads plain) refl
put_out_same (Some output) reads row plain file = each-same _ 1 _ _ output (λ c. ap (λ (b : Bool). is_column file c && (has (names_of row) c.0 || (not (has (names_of plain) c.0) || b))) (reads-same reads c.0))

-- a name is one of the columns that are read from files where a reader finds it and it is no hive column
has-plain : (reader hive : Columns) (a : Name) → has (names_of (plain_columns reader hive)) a ≡ (has (names_of reader) a && not (has (names_of hive) a))
has-plain [] hive a = refl
has-plain (c ∷ reader) hive a = at (has (names_of hive) c.0) refl (bytes_eq a c.0) refl (has-plain reader hive a)
  where
    rest : Columns
    rest = plain_columns reader hive

    there : {h : Bool} → has (names_of hive) c.0 ≡ h → bytes_eq a c.0 ≡ true → has (names_of hive) a ≡ h
    there p e = ap (has (names_of hive)) (named a c.0 e) ∙ p

    and_false : (b : Bool) → (b && false) ≡ false
    and_false true = refl
    and_false false = refl

    at : (h : Bool) → has (names_of hive) c.0 ≡ h → (b : Bool) → bytes_eq a c.0 ≡ b → has (names_of rest) a ≡ (has (names_of reader) a && not (has (names_of hive) a)) → has (names_of (cond (not h) (c ∷ rest) rest)) a ≡ ((b || has (names_of reader) a) && not (has (names_of hive) a))
    at true p true e r = r ∙ ap (λ (x : Bool). has (names_of reader) a && not x) (there p e) ∙ and_false (has (names_of reader) a) ∙ sym (ap not (there p e))
    at true p false e r = r
    at false p true e r = ap (λ (x : Bool). x || has (names_of rest) a) e ∙ sym (ap not (there p e))
    at false p false e r = ap (λ (x : Bool). x || has (names_of rest) a) e ∙ r

-- whether a name is read, by whether a reader finds it

pub found_read : (told : Option (List Name)) (reader hive : Columns) (a : Name) (t : DataType) → type_of reader a ≡ Some t → (has (names_of hive) a || is_told told a) ≡ is_read told (plain_columns reader hive) a
found_read told reader hive a t e =
    let found : has (names_of reader) a ≡ true = known_there reader a t e in
    sym (ap (λ (b : Bool). not b || is_told told a) (has-plain reader hive a ∙ ap (λ (b : Bool). b && not (has (names_of hive) a)) found) ∙ ap (λ (b : Bool). b || is_told told a) (twice (has (names_of hive) a)))
  where
    twice : (b : Bool) → not (not b) ≡ b
    twice true = refl
    twice false = refl

pub lacking_read : (told : Option (List Name)) (reader hive : Columns) (a : Name) → type_of reader a ≡ None → true ≡ is_read told (plain_columns reader hive) a
lacking_read told reader hive a e =
    sym (ap (λ (b : Bool). not b || is_told told a) (has-plain reader hive a ∙ ap (λ (b : Bool). b && not (has (names_of hive) a)) (known_none reader a e)))
