-- An explode over an input that narrows at what it asks.
use Rattle.std.proofs.Common.{◌≡◌, ℕ, Bool, true, false, cond, List, [], ◌∷◌, ◌++◌, map, fold, length, Option, Some, None, is_some, option_map, refl, sym, ap, ap₂, ◌∙◌, subst}
use Rattle.std.proofs.Math.Path.{fun_ext}
use Rattle.std.specs.Prelude.{max}
use Rattle.std.specs.List.{flat_map, range_with_len}
use Rattle.std.specs.Str.{bytes_eq}
use Rattle.plan_core.specs.declared.data_type.DataType.{DataType}
use Rattle.plan_core.specs.declared.error.PolarsError.TheVariants.{SchemaFieldNotFound, SchemaMismatch}
use Rattle.plan_core.specs.Columns.{Columns, type_of}
use Rattle.plan_core.specs.Names.{has}
use Rattle.plan_ir.specs.declared.functions.FunctionIR.TheVariants.{Explode}
use Rattle.plan_expr.specs.Leaves.{Name}
use Rattle.plan_frame.specs.Reshaped.{item_type, exploded_columns, items, rows_given, exploded_rows, exploded_values}
use Rattle.plan_meaning.specs.Contents.{Contents}
use Rattle.plan_meaning.specs.Mapped.{mapped}
use Rattle.plan_meaning.specs.Checks.{Check, is_known}
use Rattle.plan_meaning.specs.Typing.{is_list_type, explode_checks, function_checks, AllHold}
use Rattle.plan_frame.specs.Values.{Value}
use Rattle.plan_frame.specs.Frames.{Frame, Column, HasSchema, found, row, column_or, Agree}
use Rattle.plan_meaning.specs.Relating.{Holding}
use Rattle.plan_meaning.specs.Asked.{function_names}
use Rattle.plan_frame.proofs.NameSets.{named, keeps_names, adds_names}
use Rattle.plan_frame.proofs.FrameLemmas.{or_same}
use Rattle.plan_pruned.proofs.FunctionParts.{FunctionKept}
use Rattle.plan_pruned.proofs.NarrowLemmas.{holding_same}
use Rattle.plan_pruned.proofs.UnpivotNarrows.{each_same, map_same}

-- the type that a column gets
abbrev type_now : Bool → DataType → DataType
type_now b t = cond b (item_type t) t

type-exploded : (names : List Name) (s : Columns) (a : Name) → type_of (exploded_columns names s) a ≡ option_map (type_now (has names a)) (type_of s a)
type-exploded names [] a = refl
type-exploded names (c ∷ cs) a = at (bytes_eq a c.0) refl (type-exploded names cs a)
  where
    at : (t : Bool) → bytes_eq a c.0 ≡ t → type_of (exploded_columns names cs) a ≡ option_map (type_now (has names a)) (type_of cs a) → cond t (Some (type_now (has names c.0) c.1)) (type_of (exploded_columns names cs) a) ≡ option_map (type_now (has names a)) (cond t (Some c.1) (type_of cs a))
    at true e r = ap (λ (x : Name). Some (type_now (has names x) c.1)) (sym (named a c.0 e))
    at false e r = r

some-exploded : (names : List Name) (s : Columns) (a : Name) → is_some (type_of (exploded_columns names s) a) ≡ is_some (type_of s a)
some-exploded names s a = ap (λ (o : Option DataType). is_some o) (type-exploded names s a) ∙ at (type_of s a)
  where
    at : (o : Option DataType) → is_some (option_map (type_now (has names a)) o) ≡ is_some o
    at None = refl
    at (Some t) = refl

-- a column that is taken apart, or stays, over some rows
abbrev apart : List Name → List (ℕ × ℕ) → List Column → List Column
apart names rows cs = map (λ (c : Column). record { name = c.name; values = exploded_values (has names c.name) rows c.values }) cs

found-exploded : (names : List Name) (rows : List (ℕ × ℕ)) (cs : List Column) (a : Name) → found (apart names rows cs) a ≡ option_map (exploded_values (has names a) rows) (found cs a)
found-exploded names rows [] a = refl
found-exploded names rows (c ∷ cs) a = at (bytes_eq a c.name) refl (found-exploded names rows cs a)
  where
    at : (t : Bool) → bytes_eq a c.name ≡ t → found (apart names rows cs) a ≡ option_map (exploded_values (has names a) rows) (found cs a) → cond t (Some (exploded_values (has names c.name) rows c.values)) (found (apart names rows cs) a) ≡ option_map (exploded_values (has names a) rows) (cond t (Some c.values) (found cs a))
    at true e r = ap (λ (x : Name). Some (exploded_values (has names x) rows c.values)) (sym (named a c.name e))
    at false e r = r

-- the rows depend on the columns that are taken apart alone
rows-same : (names : List Name) (f g : Frame) → f.height ≡ g.height → ((a : Name) → has names a ≡ true → column_or f a ≡ column_or g a) → exploded_rows names f ≡ exploded_rows names g
rows-same names f g high same =
    let each : rows_given names f ≡ rows_given names g =
    fun_ext (λ (i : ℕ). ap (fold max 1) (map_same (λ (a : Name). length (items (row (column_or f a) i))) (λ (a : Name). length (items (row (column_or g a) i))) names (λ a k. ap (λ (vs : List Value). length (items (row vs i))) (same a k)))) in
    ap₂ (λ (by : ℕ → ℕ) (h : ℕ). flat_map (λ (i : ℕ). map (λ (j : ℕ). (i, j)) (range_with_len 0 (by i))) (range_with_len 0 h)) each high

module _ (columns wanted : List Name) (r s : Columns) (good : AllHold (function_checks (Explode columns) s)) (h : Holding (function_names (Explode columns) wanted s) r s) where
  asked_too : (a : Name) → has wanted a ≡ true → has (function_names (Explode columns) wanted s) a ≡ true
  asked_too a i = keeps_names wanted columns a i

  taken_too : (a : Name) → has columns a ≡ true → has (function_names (Explode columns) wanted s) a ≡ true
  taken_too a i = adds_names wanted columns a i

  types : (a : Name) → has columns a ≡ true → type_of r a ≡ type_of s a
  types a i = holding_same (function_names (Explode columns) wanted s) r s h a (taken_too a i)

  checks-same : function_checks (Explode columns) r ≡ function_checks (Explode columns) s
  unfolding explode_checks
  checks-same = ap₂ (λ (x y : List Check). x ++ y)
      (each_same SchemaFieldNotFound 1 (is_known r) (is_known s) columns (λ a i. ap (λ (o : Option DataType). is_some o) (types a i)))
      (each_same SchemaMismatch 1 (λ (a : Name). is_list_type (type_of r a)) (λ (a : Name). is_list_type (type_of s a)) columns (λ a i. ap is_list_type (types a i)))

  explode_held : (a : Name) → has wanted a ≡ true → (t : DataType) × (type_of (exploded_columns columns r) a ≡ Some t) × (type_of (exploded_columns columns s) a ≡ Some t)
  explode_held a i =
      let t = h.held a (asked_too a i) in (
        type_now (has columns a) t.0,
        type-exploded columns r a ∙ ap (option_map (type_now (has columns a))) t.1,
        type-exploded columns s a ∙ ap (option_map (type_now (has columns a))) t.2,
      )

  explode_within : (a : Name) → is_some (type_of (exploded_columns columns r) a) ≡ true → is_some (type_of (exploded_columns columns s) a) ≡ true
  explode_within a e = some-exploded columns s a ∙ h.within a (sym (some-exploded columns r a) ∙ e)

  explode_agrees : (c : Contents) (f0 g0 : Frame) → HasSchema f0 r → HasSchema g0 s → Agree (function_names (Explode columns) wanted s) f0 g0 → Agree wanted (mapped c (Explode columns) f0) (mapped c (Explode columns) g0)
  explode_agrees c f0 g0 hr hs ag =
      let rows : exploded_rows columns f0 ≡ exploded_rows columns g0 = rows-same columns f0 g0 ag.height (λ a i. or_same f0 g0 a a ag.height (ag.same a (taken_too a i))) in
      record {
        height = ap (λ (l : List (ℕ × ℕ)). length l) rows;
        same = λ a i.
            found-exploded columns (exploded_rows columns f0) f0.columns a
            ∙ ap₂ (λ (l : List (ℕ × ℕ)) (o : Option (List Value)). option_map (exploded_values (has columns a) l) o) rows (ag.same a (asked_too a i))
            ∙ sym (found-exploded columns (exploded_rows columns g0) g0.columns a);
      }

  pub explode_kept : FunctionKept (Explode columns) wanted r s
  explode_kept = record { good = subst AllHold (sym checks-same) good; schema = record { held = explode_held; within = explode_within }; agrees = explode_agrees }
