-- What functions make of columns, name by name.
use Rattle.std.proofs.Common.{◌≡◌, Bool, true, false, cond, ◌&&◌, ◌||◌, ℕ, zero, suc, ◌+◌, List, [], ◌∷◌, ◌++◌, Option, Some, None, is_some, take, refl, sym, ap, ap₂, ◌∙◌, add-one}
use Rattle.std.specs.List.{AllByRecursion, list_all, slice_get}
use Rattle.std.specs.Str.{bytes_eq}
use Rattle.std.proofs.lemmas.Bool.{and_parts}
use Rattle.plan_core.specs.declared.data_type.DataType.{DataType}
use Rattle.plan_core.specs.declared.data_type.DataType.TheVariants.{Int64, String, Boolean, List as ListOf}
use Rattle.plan_core.specs.declared.data_type.PlainType.TheVariants as plains
use Rattle.plan_core.specs.declared.error.PolarsError.TheVariants.{SchemaFieldNotFound, SchemaMismatch}
use Rattle.plan_core.specs.Columns.{Columns, names_of, type_of}
use Rattle.plan_core.specs.Names.{has}
use Rattle.plan_expr.specs.Leaves.{Name}
use Rattle.plan_ir.specs.declared.functions.FunctionIR.TheVariants.{Explode, RowIndex}
use Rattle.plan_frame.specs.Reshaped.{exploded_columns, item_type}
use Rattle.plan_frame.proofs.NameSets.{named, some-type_of}
use Rattle.plan_meaning.specs.Checks.{Check, each, is_known}
use Rattle.plan_meaning.specs.Typing.{AllHold, explode_checks, function_checks, is_list_type, row_index_checks}
use Rattle.plan_meaning.proofs.CheckParts.{hold_join, pass_each}
use Rattle.plan_schema.specs.Stored.{all_hold}
use Rattle.plan_prune_names.specs.declared.known_columns.KnownColumns.{KnownColumns}
use Rattle.plan_prune_names.specs.ByName.{item_in, with_items}
use Rattle.plan_prune_names.specs.Known.{IsMade, Shows, type_in}

-- a name without a type is none of the columns
has_none : (s : Columns) (a : Name) → type_of s a ≡ None → has (names_of s) a ≡ false
has_none s a e = sym (some-type_of s a) ∙ ap (λ (o : Option DataType). is_some o) e

-- a numbering of rows whose name is new
number-holds : (name : Name) (offset : Option ℕ) (s : Columns) → type_of s name ≡ None → all_hold (function_checks (RowIndex name offset) s) ≡ true
unfolding row_index_checks
number-holds name offset s e = rw (has_none s name e) refl

pub number-made : (o p : KnownColumns) (name : Name) (offset : Option ℕ) → type_in o name ≡ None → ((a : Name) → type_in p a ≡ cond (bytes_eq a name) (Some Int64) (type_in o a)) → IsMade (RowIndex name offset) o p
number-made o p name offset new put s shows =
    let holds = number-holds name offset s (sym (shows name) ∙ new) in (
      holds,
      λ a.
          put a
          ∙ ap (λ (d : Option DataType). cond (bytes_eq a name) (Some Int64) d) (shows a)
          ∙ ap (λ (t : Columns). type_of t a) (sym (ap (λ (b : Bool). cond b ((name, Int64) ∷ s) []) holds)),
    )

-- checks that hold, all of them
pub held : (cs : List Check) → AllHold cs → all_hold cs ≡ true
held [] h = refl
held (c ∷ cs) h = ap₂ (λ (x y : Bool). x && y) h.0 (held cs h.1)

-- columns that have lists
list_known : (d : Option DataType) → is_list_type d ≡ true → is_some d ≡ true
list_known None h = cc
list_known (Some t) h = refl

lists_known : (s : Columns) (names : List Name) → list_all (λ (a : Name). is_list_type (type_of s a)) names ≡ true → AllByRecursion (λ (a : Name). is_known s a ≡ true) names
lists_known s [] h = tt
lists_known s (a ∷ names) h =
    let p = and_parts (is_list_type (type_of s a)) (list_all (λ (b : Name). is_list_type (type_of s b)) names) h in
    (list_known (type_of s a) p.0, lists_known s names p.1)

lists_hold : (s : Columns) (names : List Name) → list_all (λ (a : Name). is_list_type (type_of s a)) names ≡ true → AllByRecursion (λ (a : Name). is_list_type (type_of s a) ≡ true) names
lists_hold s [] h = tt
lists_hold s (a ∷ names) h =
    let p = and_parts (is_list_type (type_of s a)) (list_all (λ (b : Name). is_list_type (type_of s b)) names) h in
    (p.0, lists_hold s names p.1)

explode-holds : (names : List Name) (s : Columns) → list_all (λ (a : Name). is_list_type (type_of s a)) names ≡ true → all_hold (function_checks (Explode names) s) ≡ true
unfolding explode_checks
explode-holds names s h =
    held (each SchemaFieldNotFound 1 (is_known s) names ++ each SchemaMismatch 1 (λ (a : Name). is_list_type (type_of s a)) names)
    (hold_join (each SchemaFieldNotFound 1 (is_known s) names) (each SchemaMismatch 1 (λ (a : Name). is_list_type (type_of s a)) names)
    (pass_each SchemaFieldNotFound 1 (is_known s) names (lists_known s names h))
    (pass_each SchemaMismatch 1 (λ (a : Name). is_list_type (type_of s a)) names (lists_hold s names h)))

-- the types of columns whose lists are taken apart
exploded_at : (t u : Bool) (d : DataType) (o : Option DataType) (left : Option DataType) → left ≡ cond u (item_in o) o → cond t (Some (cond u (item_type d) d)) left ≡ cond u (item_in (cond t (Some d) o)) (cond t (Some d) o)
exploded_at true true d o left h = refl
exploded_at true false d o left h = refl
exploded_at false true d o left h = h
exploded_at false false d o left h = h

both_none : (u : Bool) → cond u (item_in None) None ≡ None
both_none true = refl
both_none false = refl

pub type_of-exploded : (names : List Name) (s : Columns) (a : Name) → type_of (exploded_columns names s) a ≡ with_items names (type_of s) a
type_of-exploded names [] a = sym (both_none (has names a))
type_of-exploded names (c ∷ s) a = at (bytes_eq a c.0) refl (type_of-exploded names s a)
  where
    left : Option DataType
    left = type_of (exploded_columns names s) a

    at : (t : Bool) → bytes_eq a c.0 ≡ t → left ≡ with_items names (type_of s) a → cond t (Some (cond (has names c.0) (item_type c.1) c.1)) left ≡ cond (has names a) (item_in (cond t (Some c.1) (type_of s a))) (cond t (Some c.1) (type_of s a))
    at true e r =
        ap (λ (x : Name). Some (cond (has names x) (item_type c.1) c.1)) (sym (named a c.0 e))
        ∙ exploded_at true (has names a) c.1 (type_of s a) (cond (has names a) (item_in (type_of s a)) (type_of s a)) refl
    at false e r = r

-- the same test, and the same types
pub lists-shown : (o : KnownColumns) (s : Columns) (names : List Name) → Shows o s → list_all (λ (a : Name). is_list_type (type_in o a)) names ≡ list_all (λ (a : Name). is_list_type (type_of s a)) names
lists-shown o s [] h = refl
lists-shown o s (a ∷ names) h = ap₂ (λ (x y : Bool). x && y) (ap (λ (d : Option DataType). is_list_type d) (h a)) (lists-shown o s names h)

pub explode-made : (o p : KnownColumns) (names : List Name) → list_all (λ (a : Name). is_list_type (type_in o a)) names ≡ true → ((a : Name) → type_in p a ≡ with_items names (type_in o) a) → IsMade (Explode names) o p
explode-made o p names good put s shows =
    let holds = explode-holds names s (sym (lists-shown o s names shows) ∙ good) in (
      holds,
      λ a.
          put a
          ∙ ap (λ (d : Option DataType). cond (has names a) (item_in d) d) (shows a)
          ∙ sym (type_of-exploded names s a)
          ∙ ap (λ (t : Columns). type_of t a) (sym (ap (λ (b : Bool). cond b (exploded_columns names s) []) holds)),
    )

-- lists that are taken apart twice
pub item-twice : (d : Option DataType) → item_in (item_in d) ≡ item_in d
item-twice None = refl
item-twice (Some Int64) = refl
item-twice (Some String) = refl
item-twice (Some Boolean) = refl
item-twice (Some (ListOf plains.Int64)) = refl
item-twice (Some (ListOf plains.String)) = refl
item-twice (Some (ListOf plains.Boolean)) = refl

-- a look-up that finds nothing
pub none_there : (d : Option DataType) → is_some d ≡ false → d ≡ None
none_there None e = refl
none_there (Some t) e = cc

-- the names before the next place, with the name at this one
pub has-next : (names : List Name) (i : ℕ) (n a : Name) → slice_get names i ≡ Some n → has (take (i + 1) names) a ≡ (has (take i names) a || bytes_eq a n)
has-next names i n a e = rw (add-one i) (go names i e)
  where
    last : (x : Bool) → (x || false) ≡ x
    last true = refl
    last false = refl

    assoc : (x y z : Bool) → (x || (y || z)) ≡ ((x || y) || z)
    assoc true y z = refl
    assoc false y z = refl

    go : (xs : List Name) (j : ℕ) → slice_get xs j ≡ Some n → has (take (suc j) xs) a ≡ (has (take j xs) a || bytes_eq a n)
    go [] j q = cc
    go (x ∷ xs) zero q = let same : x ≡ n = cc in last (bytes_eq a x) ∙ ap (bytes_eq a) same
    go (x ∷ xs) (suc j) q = ap (λ (b : Bool). bytes_eq a x || b) (go xs j q) ∙ assoc (bytes_eq a x) (has (take j xs) a) (bytes_eq a n)

-- the lists of one more column taken apart
pub items-next : (names : List Name) (i : ℕ) (n : Name) (old before after : Name → Option DataType) (d : Option DataType) → slice_get names i ≡ Some n → ((a : Name) → before a ≡ with_items (take i names) old a) → d ≡ item_in (before n) → ((a : Name) → after a ≡ cond (bytes_eq a n) d (before a)) → (a : Name) → after a ≡ with_items (take (i + 1) names) old a
items-next names i n old before after d e so_far is put a =
    put a
    ∙ at (bytes_eq a n) refl
    ∙ ap (λ (b : Bool). cond b (item_in (old a)) (old a)) (sym (has-next names i n a e))
  where
    here : (u : Bool) → item_in (cond u (item_in (old n)) (old n)) ≡ cond (u || true) (item_in (old n)) (old n)
    here true = item-twice (old n)
    here false = refl

    there : (u : Bool) → cond u (item_in (old a)) (old a) ≡ cond (u || false) (item_in (old a)) (old a)
    there true = refl
    there false = refl

    at : (t : Bool) → bytes_eq a n ≡ t → cond t d (before a) ≡ cond (has (take i names) a || t) (item_in (old a)) (old a)
    at true q =
        is ∙ ap (λ (x : Option DataType). item_in x) (so_far n)
        ∙ here (has (take i names) n)
        ∙ ap (λ (x : Name). cond (has (take i names) x || true) (item_in (old x)) (old x)) (sym (named a n q))
    at false q = so_far a ∙ there (has (take i names) a)
