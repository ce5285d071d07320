-- The first fault of items that are looked at one after another.
use Rattle.std.proofs.Common.{◌≡◌, ◌+◌, ◌≤◌, ℕ, zero, suc, Bool, true, false, ◌&&◌, if◌then◌else◌, List, [], ◌∷◌, length, take, take_all, Option, None, Some, Err, refl, sym, ap, ◌∙◌, add-one, arith}
use Rattle.std.specs.List.{list_all, slice_get}
use Rattle.std.proofs.lemmas.List.Folds.{list_all-append}
use Rattle.std.specs.Option.{option_or}
use Rattle.plan_core.specs.declared.error.At.{At}
use Rattle.plan_core.specs.declared.error.PolarsError.{PolarsError}
use Rattle.plan_core.specs.declared.error.PolarsError.TheVariants.{SchemaFieldNotFound, Duplicate, SchemaMismatch, InvalidOperation, ComputeError, OutOfMemory}
use Rattle.plan_core.specs.Columns.{Columns}
use Rattle.plan_core.specs.Names.{has}
use Rattle.plan_hive.specs.Parts.{Text, HivePart, hive_parts, may_cut, part_names}
use Rattle.plan_hive.specs.Hive.{first_fault, is_known, is_read, name_fault, names_fault, parts_fault, path_fault, place, values_fault, Says}
use Rattle.plan_hive.proofs.ColumnLemmas.{take-more}

or-left : (a b : Option PolarsError) → option_or a b ≡ None → a ≡ None
or-left None b h = refl
or-left (Some e) b h = cc

or-right : (a b : Option PolarsError) → option_or a b ≡ None → b ≡ None
or-right None b h = h
or-right (Some e) b h = cc

module _ {X : Type 0} (f : ℕ → X → Option PolarsError) where
  -- after items without a fault comes one that has one
  pub found : (j i : ℕ) (xs : List X) (x : X) (e : PolarsError) → slice_get xs i ≡ Some x → first_fault f j (take i xs) ≡ None → f (j + i) x ≡ Some e → first_fault f j xs ≡ Some e
  found j i [] x e is clean here = cc
  found j zero (y ∷ ys) x e is clean here =
      let same : y ≡ x = cc in
      let index : j ≡ j + 0 = omega arith in
      let now : f j y ≡ Some e = ap (λ (k : ℕ). f k y) index ∙ ap (f (j + 0)) same ∙ here in
      ap (λ (o : Option PolarsError). option_or o (first_fault f (suc j) ys)) now
  found j (suc i) (y ∷ ys) x e is clean here =
      let first : f j y ≡ None = or-left (f j y) (first_fault f (suc j) (take i ys)) clean in
      let rest : first_fault f (suc j) (take i ys) ≡ None = or-right (f j y) (first_fault f (suc j) (take i ys)) clean in
      let index : suc j + i ≡ j + suc i = omega arith in
      ap (λ (o : Option PolarsError). option_or o (first_fault f (suc j) ys)) first ∙ found (suc j) i ys x e is rest (ap (λ (k : ℕ). f k x) index ∙ here)

  -- after items without a fault comes one more without
  pub next : (j i : ℕ) (xs : List X) (x : X) → slice_get xs i ≡ Some x → first_fault f j (take i xs) ≡ None → f (j + i) x ≡ None → first_fault f j (take (suc i) xs) ≡ None
  next j i [] x is clean here = cc
  next j zero (y ∷ ys) x is clean here =
      let same : y ≡ x = cc in
      let index : j ≡ j + 0 = omega arith in
      let now : f j y ≡ None = ap (λ (k : ℕ). f k y) index ∙ ap (f (j + 0)) same ∙ here in
      ap (λ (o : Option PolarsError). option_or o (first_fault f (suc j) [])) now
  next j (suc i) (y ∷ ys) x is clean here =
      let first : f j y ≡ None = or-left (f j y) (first_fault f (suc j) (take i ys)) clean in
      let rest : first_fault f (suc j) (take i ys) ≡ None = or-right (f j y) (first_fault f (suc j) (take i ys)) clean in
      let index : suc j + i ≡ j + suc i = omega arith in
      ap (λ (o : Option PolarsError). option_or o (first_fault f (suc j) (take (suc i) ys))) first ∙ next (suc j) i ys x is rest (ap (λ (k : ℕ). f k x) index ∙ here)

  -- none of all items has a fault
  pub none : (j i : ℕ) (xs : List X) → length xs ≤ i → first_fault f j (take i xs) ≡ None → first_fault f j xs ≡ None
  none j i xs h clean = ap (first_fault f j) (sym (take_all i xs h)) ∙ clean

from-zero : {X : Type 0} (f : ℕ → X → Option PolarsError) (i : ℕ) (x : X) → f (0 + i) x ≡ f i x
from-zero f i x = let index : 0 + i ≡ i = omega arith in ap (λ (k : ℕ). f k x) index

-- an answer that names the fault of an item names the first of all
pub says-found : (A B : Type 0) {X : Type 0} (f : ℕ → X → Option PolarsError) (i : ℕ) (xs : List X) (x : X) (e : PolarsError) → slice_get xs i ≡ Some x → first_fault f 0 (take i xs) ≡ None → Says {A = A} (Err e) (f i x) → Says {A = B} (Err e) (first_fault f 0 xs)
says-found A B f i xs x (SchemaFieldNotFound a) is clean h = found f 0 i xs x (SchemaFieldNotFound a) is clean (from-zero f i x ∙ h)
says-found A B f i xs x (Duplicate a) is clean h = found f 0 i xs x (Duplicate a) is clean (from-zero f i x ∙ h)
says-found A B f i xs x (SchemaMismatch a) is clean h = found f 0 i xs x (SchemaMismatch a) is clean (from-zero f i x ∙ h)
says-found A B f i xs x (InvalidOperation a) is clean h = found f 0 i xs x (InvalidOperation a) is clean (from-zero f i x ∙ h)
says-found A B f i xs x (ComputeError a) is clean h = found f 0 i xs x (ComputeError a) is clean (from-zero f i x ∙ h)
says-found A B f i xs x OutOfMemory is clean h = tt

-- an item without a fault more
pub next-from : {X : Type 0} (f : ℕ → X → Option PolarsError) (i : ℕ) (xs : List X) (x : X) → slice_get xs i ≡ Some x → first_fault f 0 (take i xs) ≡ None → f i x ≡ None → first_fault f 0 (take (i + 1) xs) ≡ None
next-from f i xs x is clean h = ap (λ (n : ℕ). first_fault f 0 (take n xs)) (add-one i) ∙ next f 0 i xs x is clean (from-zero f i x ∙ h)

pub found-from : {X : Type 0} (f : ℕ → X → Option PolarsError) (i : ℕ) (xs : List X) (x : X) (e : PolarsError) → slice_get xs i ≡ Some x → first_fault f 0 (take i xs) ≡ None → f i x ≡ Some e → first_fault f 0 xs ≡ Some e
found-from f i xs x e is clean h = found f 0 i xs x e is clean (from-zero f i x ∙ h)

-- a name that isn't known, one that comes twice, and one without a fault
pub unknown : (at : At) (schema : Option Columns) (firsts before : List Text) (name : Text) → is_known schema firsts name ≡ false → name_fault at schema firsts before name ≡ Some (SchemaFieldNotFound at)
unknown at schema firsts before name h = rw h refl

pub twice : (at : At) (schema : Option Columns) (firsts before : List Text) (name : Text) → is_known schema firsts name ≡ true → has before name ≡ true → name_fault at schema firsts before name ≡ Some (Duplicate at)
twice at schema firsts before name h k = rw (h, k) refl

pub faultless : (at : At) (schema : Option Columns) (firsts before : List Text) (name : Text) → is_known schema firsts name ≡ true → has before name ≡ false → name_fault at schema firsts before name ≡ None
faultless at schema firsts before name h k = rw (h, k) refl

-- a fault of a name is one of the path
pub name-first : (schema : Option Columns) (firsts : List Text) (i : ℕ) (parts : List HivePart) (e : PolarsError) → names_fault (place i) schema firsts (part_names parts) ≡ Some e → parts_fault schema firsts i parts ≡ Some e
name-first schema firsts i parts e h = ap (λ (o : Option PolarsError). option_or o (if list_all (has (part_names parts)) firsts then None else Some (ComputeError (place i)))) h

-- a path that is cut nowhere, and one that is cut
pub cut-nowhere : (start : ℕ) (schema : Option Columns) (firsts : List Text) (i : ℕ) (path : Text) → may_cut start path ≡ false → path_fault start schema firsts i path ≡ Some (ComputeError (place i))
cut-nowhere start schema firsts i path h = rw h refl

pub cut-there : (start : ℕ) (schema : Option Columns) (firsts : List Text) (i : ℕ) (path : Text) → may_cut start path ≡ true → path_fault start schema firsts i path ≡ parts_fault schema firsts i (hive_parts start path)
cut-there start schema firsts i path h = rw h refl

-- what an answer under a test tells
pub test-none : {A : Type 0} (t : Bool) (x : A) → None ≡ (if t then Some x else None) → t ≡ false
test-none true x h = cc
test-none false x h = refl

pub test-some : {A : Type 0} (t : Bool) (x y : A) → Some y ≡ (if t then Some x else None) → (t ≡ true) × (y ≡ x)
test-some true x y h = (refl, cc)
test-some false x y h = cc

-- values that are not read, and that are
pub unread : (columns : Columns) (i : ℕ) (parts : List HivePart) → is_read columns parts ≡ false → values_fault columns i parts ≡ Some (ComputeError (place i))
unread columns i parts h = rw h refl

pub read : (columns : Columns) (i : ℕ) (parts : List HivePart) → is_read columns parts ≡ true → values_fault columns i parts ≡ None
read columns i parts h = rw h refl

-- of names the first ones have a property, and one more, or one has not
module _ {X : Type 0} (p : X → Bool) where
  pub all-more : (xs : List X) (i : ℕ) (x : X) → slice_get xs i ≡ Some x → list_all p (take i xs) ≡ true → p x ≡ true → list_all p (take (i + 1) xs) ≡ true
  all-more xs i x is h q = ap (λ (n : ℕ). list_all p (take n xs)) (add-one i) ∙ ap (list_all p) (take-more xs i x is) ∙ list_all-append p (take i xs) (x ∷ []) ∙ ap (λ (b : Bool). b && (p x && true)) h ∙ ap (λ (b : Bool). b && true) q

  pub all-not : (xs : List X) (i : ℕ) (x : X) → slice_get xs i ≡ Some x → p x ≡ false → list_all p xs ≡ false
  all-not [] i x is q = cc
  all-not (y ∷ ys) zero x is q = let same : y ≡ x = cc in ap (λ (b : Bool). b && list_all p ys) (ap p same ∙ q)
  all-not (y ∷ ys) (suc i) x is q = at (p y) (all-not ys i x is q)
    where
      at : (t : Bool) → list_all p ys ≡ false → (t && list_all p ys) ≡ false
      at true h = h
      at false h = refl
