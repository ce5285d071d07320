-- Functions that give columns of their own, by the columns that they read.
use Rattle.std.proofs.Common.{◌≡◌, ◌∙◌, Bool, true, false, cond, not, ◌&&◌, ◌||◌, ◌+◌, take, ℕ, suc, List, [], ◌∷◌, ◌++◌, map, length, Option, Some, is_some, unwrap_or, refl, sym, ap, ap₂}
use Rattle.std.specs.List.{filter as only_where, list_all, slice_get}
use Rattle.std.specs.Str.{bytes_eq}
use Rattle.plan_core.specs.declared.data_type.DataType.{DataType}
use Rattle.plan_core.specs.declared.data_type.DataType.TheVariants.{Int64, String}
use Rattle.plan_core.specs.declared.error.At.{At}
use Rattle.plan_core.specs.declared.error.PolarsError.{PolarsError}
use Rattle.plan_core.specs.declared.error.PolarsError.TheVariants.{Duplicate, InvalidOperation, SchemaFieldNotFound, SchemaMismatch}
use Rattle.plan_core.specs.Columns.{Columns, names_of, type_of}
use Rattle.plan_core.specs.Names.{has}
use Rattle.plan_expr.specs.Leaves.{Name}
use Rattle.plan_frame.specs.Exprs.{is_type}
use Rattle.plan_frame.specs.Reshaped.{columns_at, type_or}
use Rattle.plan_frame.proofs.NameSets.{has_first, has_later, named}
use Rattle.plan_ir.specs.declared.functions.FunctionIR.{FunctionIR}
use Rattle.plan_ir.specs.declared.functions.FunctionIR.TheVariants.{Unpivot}
use Rattle.plan_ir.specs.declared.functions.UnpivotArgsIR.{UnpivotArgsIR}
use Rattle.plan_meaning.specs.Checks.{Check, check, each, is_column, is_empty, is_known}
use Rattle.plan_meaning.specs.Functions.{all_differ, first_type, function_schema, told_names, unpivoted_columns, unpivoted_names, value_name, value_names, variable_name}
use Rattle.plan_meaning.specs.Typing.{function_checks, unpivot_checks, unpivot_name_checks, unpivot_type_checks}
use Rattle.plan_schema.specs.Stored.{all_hold, given_by}
use Rattle.plan_prune_names.proofs.FunctionLemmas.{has-next}

-- what is said of names, by what is said of each of them
each-named : (fault : At → PolarsError) (k : ℕ) (f g : Name → Bool) (xs : List Name) → ((a : Name) → has xs a ≡ true → f a ≡ g a) → each fault k f xs ≡ each fault k g xs
each-named fault k f g [] h = refl
each-named fault k f g (x ∷ xs) h = ap₂ (λ (b : Bool) (cs : List Check). check fault k b ∷ cs) (h x (has_first x xs)) (each-named fault (suc k) f g xs (λ a e. h a (has_later x xs a e)))

all-named : (f g : Name → Bool) (xs : List Name) → ((a : Name) → has xs a ≡ true → f a ≡ g a) → list_all f xs ≡ list_all g xs
all-named f g [] h = refl
all-named f g (x ∷ xs) h = ap₂ (λ (b c : Bool). b && c) (h x (has_first x xs)) (all-named f g xs (λ a e. h a (has_later x xs a e)))

map-named : (f g : Name → Name × DataType) (xs : List Name) → ((a : Name) → has xs a ≡ true → f a ≡ g a) → map f xs ≡ map g xs
map-named f g [] h = refl
map-named f g (x ∷ xs) h = ap₂ (λ (c : Name × DataType) (cs : Columns). c ∷ cs) (h x (has_first x xs)) (map-named f g xs (λ a e. h a (has_later x xs a e)))

module _ (args : UnpivotArgsIR) (s t : Columns) (on : (a : Name) → has args.on a ≡ true → type_of t a ≡ type_of s a) (index : (a : Name) → has args.index a ≡ true → type_of t a ≡ type_of s a) where
  names-same : unpivot_name_checks args.on args.index t ≡ unpivot_name_checks args.on args.index s
  unfolding unpivot_name_checks
  names-same =
      ap₂ (λ (cs ds : List Check). cs ++ ds)
      (each-named SchemaFieldNotFound 1 (is_known t) (is_known s) args.on (λ a e. ap (λ (o : Option DataType). is_some o) (on a e)))
      (each-named SchemaFieldNotFound (suc (length args.on)) (is_known t) (is_known s) args.index (λ a e. ap (λ (o : Option DataType). is_some o) (index a e)))

  types-same : (d : DataType) → unpivot_type_checks args.on args.on d t ≡ unpivot_type_checks args.on args.on d s
  unfolding unpivot_type_checks
  types-same d =
      ap₂ (λ (cs : List Check) (b : Bool). cs ++ check SchemaMismatch 0 b ∷ [])
      (each-named SchemaMismatch 1 (λ a. is_column t (a, d)) (λ a. is_column s (a, d)) args.on (λ a e. ap (λ (o : Option DataType). is_type o d) (on a e)))
      (all-named (λ a. is_column t (a, d)) (λ a. is_column s (a, d)) args.on (λ a e. ap (λ (o : Option DataType). is_type o d) (on a e)))

  first-same : first_type t args.on ≡ first_type s args.on
  first-same = go args.on on
    where
      go : (xs : List Name) → ((a : Name) → has xs a ≡ true → type_of t a ≡ type_of s a) → first_type t xs ≡ first_type s xs
      go [] h = refl
      go (x ∷ xs) h = ap (λ (o : Option DataType). unwrap_or o Int64) (h x (has_first x xs))

  -- what is told of an unpivot, whose value columns are told
  checks : List Name → DataType → Columns → List Check
  checks names d u =
      check InvalidOperation 0 (not (is_empty names))
      ∷ (unpivot_name_checks args.on args.index u
      ++ (unpivot_type_checks args.on names d u
      ++ check Duplicate 0 (all_differ (unpivoted_names args)) ∷ []))

  checks-are : (u : Columns) → value_names args (names_of u) ≡ args.on → unpivot_checks args u ≡ checks args.on (first_type u args.on) u
  unfolding unpivot_checks checks
  checks-are u e = ap (λ (names : List Name). checks names (first_type u names) u) e

  checks-same : checks args.on (first_type t args.on) t ≡ checks args.on (first_type s args.on) s
  unfolding checks
  checks-same =
      ap₂ (λ (cs ds : List Check). check InvalidOperation 0 (not (is_empty args.on)) ∷ (cs ++ (ds ++ check Duplicate 0 (all_differ (unpivoted_names args)) ∷ [])))
      names-same (types-same (first_type t args.on) ∙ ap (λ (d : DataType). unpivot_type_checks args.on args.on d s) first-same)

  made-same : columns_at t args.index ≡ columns_at s args.index
  made-same = map-named (λ a. (a, type_or t a)) (λ a. (a, type_or s a)) args.index (λ a e. ap (λ (o : Option DataType). (a, unwrap_or o Int64)) (index a e))

  told : (u : Columns) → (length args.on ≡ 0 → ⊥) → value_names args (names_of u) ≡ args.on
  told u some = go args.on some
    where
      go : (xs : List Name) → (length xs ≡ 0 → ⊥) → told_names xs (only_where (λ (a : Name). not (has args.index a)) (names_of u)) ≡ xs
      go [] h = absurd (h refl)
      go (x ∷ xs) h = refl

  pub unpivot-same : (length args.on ≡ 0 → ⊥) → given_by (Unpivot args) t ≡ given_by (Unpivot args) s
  unpivot-same some =
      ap₂ (λ (cs : List Check) (made : Columns). cond (all_hold cs) made [])
      (checks-are t (told t some) ∙ checks-same ∙ sym (checks-are s (told s some)))
      columns-same
    where
      columns-same : unpivoted_columns args t ≡ unpivoted_columns args s
      columns-same =
          ap (λ (names : List Name). columns_at t args.index ++ (variable_name args, String) ∷ (value_name args, first_type t names) ∷ []) (told t some)
          ∙ ap₂ (λ (cs : Columns) (d : DataType). cs ++ (variable_name args, String) ∷ (value_name args, d) ∷ []) made-same first-same
          ∙ ap (λ (names : List Name). columns_at s args.index ++ (variable_name args, String) ∷ (value_name args, first_type s names) ∷ []) (sym (told s some))

-- a column that is added with its type
pub kept : (types before after : Name → Option DataType) (n : Name) (d : DataType) → types n ≡ Some d → ((a : Name) → after a ≡ cond (bytes_eq a n) (Some d) (before a)) → (a : Name) → before a ≡ types a → after a ≡ types a
kept types before after n d e put a h = at (bytes_eq a n) refl (put a)
  where
    at : (t : Bool) → bytes_eq a n ≡ t → after a ≡ cond t (Some d) (before a) → after a ≡ types a
    at true q r = r ∙ sym e ∙ ap types (sym (named a n q))
    at false q r = r ∙ h

pub named-next : (types before after : Name → Option DataType) (names : List Name) (i : ℕ) (n : Name) (d : DataType) → slice_get names i ≡ Some n → types n ≡ Some d → ((a : Name) → after a ≡ cond (bytes_eq a n) (Some d) (before a)) → ((a : Name) → has (take i names) a ≡ true → before a ≡ types a) → (a : Name) → has (take (i + 1) names) a ≡ true → after a ≡ types a
named-next types before after names i n d here e put so_far a h = at (bytes_eq a n) refl (put a) (sym (has-next names i n a here) ∙ h)
  where
    at : (t : Bool) → bytes_eq a n ≡ t → after a ≡ cond t (Some d) (before a) → (has (take i names) a || t) ≡ true → after a ≡ types a
    at true q r k = r ∙ sym e ∙ ap types (sym (named a n q))
    at false q r k = r ∙ so_far a (or_false (has (take i names) a) k)
      where
        or_false : (x : Bool) → (x || false) ≡ true → x ≡ true
        or_false true z = refl
        or_false false z = z

-- no check fails where columns are given
pub some-made : (function : FunctionIR) (s : Columns) → (length (given_by function s) ≡ 0 → ⊥) → all_hold (function_checks function s) ≡ true
some-made function s h = at (all_hold (function_checks function s)) h
  where
    at : (t : Bool) → (length (cond t (function_schema function s) []) ≡ 0 → ⊥) → t ≡ true
    at true k = refl
    at false k = absurd (k refl)

-- the names of what an unpivot gives
pub names-unpivoted : (args : UnpivotArgsIR) (s : Columns) → names_of (unpivoted_columns args s) ≡ unpivoted_names args
names-unpivoted args s = go args.index
  where
    go : (xs : List Name) → names_of (columns_at s xs ++ (variable_name args, String) ∷ (value_name args, first_type s (value_names args (names_of s))) ∷ []) ≡ xs ++ variable_name args ∷ value_name args ∷ []
    go [] = refl
    go (x ∷ xs) = ap (λ (l : List Name). x ∷ l) (go xs)
