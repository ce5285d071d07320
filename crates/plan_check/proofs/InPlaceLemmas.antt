-- Columns that functions change in place.
use Rattle.std.proofs.Common.{◌≡◌, ◌≤◌, ◌+◌, Bool, true, false, cond, ◌||◌, ℕ, zero, suc, List, [], ◌∷◌, length, Option, Some, None, is_some, unwrap_or, take, map, refl, sym, ap, ap₂, ◌∙◌, subst, arith, add-one}
use Rattle.std.specs.List.{AllByRecursion, IsDistinct, list_all, slice_get}
use Rattle.std.specs.Str.{bytes_eq}
use Rattle.std.proofs.lemmas.Bool.{and_parts}
use Rattle.std.proofs.Math.Path.{fun_ext}
use Rattle.plan_core.specs.declared.arena.Node.{Node}
use Rattle.plan_core.specs.declared.data_type.DataType.{DataType}
use Rattle.plan_core.specs.declared.data_type.DataType.TheVariants.{Int64, String, Boolean, List as ListOf}
use Rattle.plan_core.specs.declared.data_type.PlainType.TheVariants as plains
use Rattle.plan_core.specs.declared.error.PolarsError.TheVariants.{SchemaFieldNotFound, SchemaMismatch}
use Rattle.plan_core.specs.Columns.{Columns, HasDistinctNames, names_of, type_of, with_type, without}
use Rattle.plan_core.specs.Names.{has}
use Rattle.plan_core.proofs.ColumnLemmas.{flip_false}
use Rattle.plan_expr.specs.Leaves.{Name}
use Rattle.plan_frame.specs.Reshaped.{exploded_columns, item_type}
use Rattle.plan_frame.proofs.NameSets.{named, same_named, some-type_of}
use Rattle.plan_meaning.specs.Checks.{Check, each, is_known}
use Rattle.plan_meaning.specs.Typing.{AllHold, explode_checks, first_fault, is_list_type, row_index_checks}
use Rattle.plan_meaning.proofs.CheckParts.{hold_join, pass_each}

-- a name without a type is none of the columns
has_none : (s : Columns) (a : Name) → type_of s a ≡ None → has (names_of s) a ≡ false
has_none s a e = sym (some-type_of s a) ∙ ap (λ (o : Option DataType). is_some o) e

-- a look-up that finds nothing
pub none_there : {A : Type 0} (o : Option A) → is_some o ≡ false → o ≡ None
none_there None e = refl
none_there (Some x) e = cc

-- checks that hold, all of them, find no fault
pub no_fault : (n : Node) (cs : List Check) → AllHold cs → first_fault n cs ≡ None
no_fault n [] h = refl
no_fault n (c ∷ cs) h = rw h.0 (no_fault n cs h.1)

-- a numbering of rows whose name is new
pub number-holds : (name : Name) (s : Columns) → type_of s name ≡ None → AllHold (row_index_checks name s)
unfolding row_index_checks
number-holds name s e = (rw (has_none s name e) refl, tt)

-- a name that differs from all has no type
pub differs : (a : Name) (s : Columns) → AllByRecursion (λ (y : Name). bytes_eq a y ≡ false) (names_of s) → type_of s a ≡ None
differs a [] h = refl
differs a (c ∷ s) h = rw h.0 (differs a s h.1)

-- and so it is at each place
pub differs_at : (a : Name) (s : Columns) (i : ℕ) (b : Name) (d : DataType) → AllByRecursion (λ (y : Name). bytes_eq a y ≡ false) (names_of s) → slice_get s i ≡ Some (b, d) → bytes_eq a b ≡ false
differs_at a [] i b d h e = cc
differs_at a (c ∷ s) zero b d h e = let same : c.0 ≡ b = ap (λ (o : Option (Name × DataType)). (unwrap_or o c).0) e in ap (bytes_eq a) (sym same) ∙ h.0
differs_at a (c ∷ s) (suc i) b d h e = differs_at a s i b d h.1 e

-- the place is still within the columns without the old name
pub still_within : (old : Name) (s : Columns) (i : ℕ) (d : DataType) → HasDistinctNames s → slice_get s i ≡ Some (old, d) → i ≤ length (without s old)
unfolding IsDistinct
still_within old [] i d u e = cc
still_within old (c ∷ s) zero d u e = omega arith
still_within old (c ∷ s) (suc i) d u e =
    let miss : bytes_eq old c.0 ≡ false = flip_false c.0 old (differs_at c.0 s i old d u.0 e) in
    rw miss (let h = still_within old s i d u.1 e in omega (arith, h))

-- columns whose lists are taken apart

list_known : (d : Option DataType) → is_list_type d ≡ true → is_some d ≡ true
list_known None h = cc
list_known (Some t) h = refl

lists_known : (s : Columns) (names : List Name) → list_all (λ (a : Name). is_list_type (type_of s a)) names ≡ true → AllByRecursion (λ (a : Name). is_known s a ≡ true) names
lists_known s [] h = tt
lists_known s (a ∷ names) h =
    let p = and_parts (is_list_type (type_of s a)) (list_all (λ (b : Name). is_list_type (type_of s b)) names) h in
    (list_known (type_of s a) p.0, lists_known s names p.1)

lists_hold : (s : Columns) (names : List Name) → list_all (λ (a : Name). is_list_type (type_of s a)) names ≡ true → AllByRecursion (λ (a : Name). is_list_type (type_of s a) ≡ true) names
lists_hold s [] h = tt
lists_hold s (a ∷ names) h =
    let p = and_parts (is_list_type (type_of s a)) (list_all (λ (b : Name). is_list_type (type_of s b)) names) h in
    (p.0, lists_hold s names p.1)

pub explode-holds : (names : List Name) (s : Columns) → list_all (λ (a : Name). is_list_type (type_of s a)) names ≡ true → AllHold (explode_checks names s)
unfolding explode_checks
explode-holds names s h =
    hold_join (each SchemaFieldNotFound 1 (is_known s) names) (each SchemaMismatch 1 (λ (a : Name). is_list_type (type_of s a)) names)
    (pass_each SchemaFieldNotFound 1 (is_known s) names (lists_known s names h))
    (pass_each SchemaMismatch 1 (λ (a : Name). is_list_type (type_of s a)) names (lists_hold s names h))

-- no lists taken apart
pub apart-none : (s : Columns) → exploded_columns [] s ≡ s
apart-none [] = refl
apart-none (c ∷ s) = ap (λ (l : Columns). c ∷ l) (apart-none s)

-- lists that are taken apart twice
item_again : (t : DataType) → item_type (item_type t) ≡ item_type t
item_again Int64 = refl
item_again String = refl
item_again Boolean = refl
item_again (ListOf plains.Int64) = refl
item_again (ListOf plains.String) = refl
item_again (ListOf plains.Boolean) = refl

-- the columns, those of which the test says so with the types of the values in their lists
abbrev by_test : (Name → Bool) → Columns → Columns
by_test test s = map (λ (c : Name × DataType). (c.0, cond (test c.0) (item_type c.1) c.1)) s

or_none : (x : Bool) → (x || false) ≡ x
or_none true = refl
or_none false = refl

module _ (done : Name → Bool) (a : Name) where
  abbrev more : Name → Bool
  more b = done b || bytes_eq b a

  -- another column is as it was
  other : (c : Name × DataType) → bytes_eq a c.0 ≡ false → cond (done c.0) (item_type c.1) c.1 ≡ cond (more c.0) (item_type c.1) c.1
  other c e = ap (λ (t : Bool). cond t (item_type c.1) c.1) (sym (ap (λ (u : Bool). done c.0 || u) (flip_false a c.0 e) ∙ or_none (done c.0)))

  -- columns without the name are as they were
  others : (s : Columns) → AllByRecursion (λ (y : Name). bytes_eq a y ≡ false) (names_of s) → by_test done s ≡ by_test more s
  others [] h = refl
  others (c ∷ s) h = ap₂ (λ (t : DataType) (l : Columns). (c.0, t) ∷ l) (other c h.0) (others s h.1)

  -- the lists of one more column taken apart
  with_more : (s : Columns) (d : DataType) → HasDistinctNames s → type_of (by_test done s) a ≡ Some d → with_type (by_test done s) a (item_type d) ≡ by_test more s
  unfolding IsDistinct
  with_more [] d u e = cc
  with_more (c ∷ s) d u e = at (bytes_eq a c.0) refl u.0 (λ k. with_more s d u.1 k) e
    where
      mine : DataType
      mine = cond (done c.0) (item_type c.1) c.1

      twice : (t : Bool) → item_type (cond t (item_type c.1) c.1) ≡ item_type c.1
      twice true = item_again c.1
      twice false = refl

      hit : (t : Bool) → (t || true) ≡ true
      hit true = refl
      hit false = refl

      at : (t : Bool) → bytes_eq a c.0 ≡ t → AllByRecursion (λ (y : Name). bytes_eq c.0 y ≡ false) (names_of s) → (type_of (by_test done s) a ≡ Some d → with_type (by_test done s) a (item_type d) ≡ by_test more s) → cond t (Some mine) (type_of (by_test done s) a) ≡ Some d → cond t ((c.0, item_type d) ∷ by_test done s) ((c.0, mine) ∷ with_type (by_test done s) a (item_type d)) ≡ by_test more (c ∷ s)
      at true q apart rest k =
          let same : mine ≡ d = ap (λ (o : Option DataType). unwrap_or o mine) k in
          let name : a ≡ c.0 = named a c.0 q in
          let here : bytes_eq c.0 a ≡ true = ap (λ (x : Name). bytes_eq x a) (sym name) ∙ same_named a in
          let told : more c.0 ≡ true = ap (λ (t : Bool). done c.0 || t) here ∙ hit (done c.0) in
          ap₂ (λ (t : DataType) (l : Columns). (c.0, t) ∷ l)
          (ap (λ (t : DataType). item_type t) (sym same) ∙ twice (done c.0) ∙ sym (ap (λ (t : Bool). cond t (item_type c.1) c.1) told))
          (others s (subst (λ (x : Name). AllByRecursion (λ (y : Name). bytes_eq x y ≡ false) (names_of s)) (sym name) apart))
      at false q apart rest k = ap₂ (λ (t : DataType) (l : Columns). (c.0, t) ∷ l) (other c q) (rest k)

  -- and where the name is none of the columns
  without_more : (s : Columns) → type_of (by_test done s) a ≡ None → by_test done s ≡ by_test more s
  without_more [] e = refl
  without_more (c ∷ s) e = at (bytes_eq a c.0) refl (λ k. without_more s k) e
    where
      mine : DataType
      mine = cond (done c.0) (item_type c.1) c.1

      at : (t : Bool) → bytes_eq a c.0 ≡ t → (type_of (by_test done s) a ≡ None → by_test done s ≡ by_test more s) → cond t (Some mine) (type_of (by_test done s) a) ≡ None → by_test done (c ∷ s) ≡ by_test more (c ∷ s)
      at true q rest k = cc
      at false q rest k = ap₂ (λ (t : DataType) (l : Columns). (c.0, t) ∷ l) (other c q) (rest k)

-- the names before the next place, with the name at this one
has-next : (names : List Name) (i : ℕ) (n a : Name) → slice_get names i ≡ Some n → has (take (i + 1) names) a ≡ (has (take i names) a || bytes_eq a n)
has-next names i n a e = rw (add-one i) (go names i e)
  where
    assoc : (x y z : Bool) → (x || (y || z)) ≡ ((x || y) || z)
    assoc true y z = refl
    assoc false y z = refl

    go : (xs : List Name) (j : ℕ) → slice_get xs j ≡ Some n → has (take (suc j) xs) a ≡ (has (take j xs) a || bytes_eq a n)
    go [] j q = cc
    go (x ∷ xs) zero q = let same : x ≡ n = cc in or_none (bytes_eq a x) ∙ ap (bytes_eq a) same
    go (x ∷ xs) (suc j) q = ap (λ (b : Bool). bytes_eq a x || b) (go xs j q) ∙ assoc (bytes_eq a x) (has (take j xs) a) (bytes_eq a n)

module _ (names : List Name) (i : ℕ) (n : Name) (s : Columns) (here : slice_get names i ≡ Some n) where
  next_test : (λ (b : Name). has (take i names) b || bytes_eq b n) ≡ has (take (i + 1) names)
  next_test = fun_ext (λ (b : Name). sym (has-next names i n b here))

  -- one name more of those whose lists are taken apart: a column's, or none's
  pub apart-next : (d : DataType) → HasDistinctNames s → type_of (exploded_columns (take i names) s) n ≡ Some d → with_type (exploded_columns (take i names) s) n (item_type d) ≡ exploded_columns (take (i + 1) names) s
  apart-next d u e = with_more (has (take i names)) n s d u e ∙ ap (λ (t : Name → Bool). by_test t s) next_test

  pub apart-skip : type_of (exploded_columns (take i names) s) n ≡ None → exploded_columns (take i names) s ≡ exploded_columns (take (i + 1) names) s
  apart-skip e = without_more (has (take i names)) n s e ∙ ap (λ (t : Name → Bool). by_test t s) next_test
