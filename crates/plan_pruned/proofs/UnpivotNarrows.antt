-- An unpivot that tells its value columns, over an input that narrows at what it asks: it gives the same.
use Rattle.std.proofs.Common.{◌≡◌, ℕ, suc, ◌*◌, Bool, true, false, not, cond, ◌&&◌, List, [], ◌∷◌, ◌++◌, map, length, Option, is_some, unwrap_or, replicate, refl, sym, ap, ap₂, ◌∙◌, subst}
use Rattle.std.specs.List.{filter as only_where, flat_map, list_all}
use Rattle.plan_core.specs.declared.error.At.{At}
use Rattle.plan_core.specs.declared.error.PolarsError.{PolarsError}
use Rattle.plan_core.specs.declared.error.PolarsError.TheVariants.{SchemaFieldNotFound, SchemaMismatch, InvalidOperation, Duplicate}
use Rattle.plan_core.specs.declared.data_type.DataType.{DataType}
use Rattle.plan_core.specs.declared.data_type.DataType.TheVariants.{Int64, String}
use Rattle.plan_core.specs.Columns.{Columns, names_of, type_of}
use Rattle.plan_core.specs.Names.{has, with_names}
use Rattle.plan_ir.specs.declared.functions.FunctionIR.TheVariants.{Unpivot}
use Rattle.plan_ir.specs.declared.functions.UnpivotArgsIR.{UnpivotArgsIR}
use Rattle.plan_expr.specs.Leaves.{Name}
use Rattle.plan_meaning.specs.Functions.{told_names, value_names, first_type, variable_name, value_name, unpivoted_names, all_differ, function_schema}
use Rattle.plan_frame.specs.Reshaped.{type_or, repeated, names_down, values_down}
use Rattle.plan_frame.specs.Exprs.{is_type}
use Rattle.plan_meaning.specs.Contents.{Contents}
use Rattle.plan_meaning.specs.Mapped.{mapped}
use Rattle.plan_meaning.specs.Checks.{Check, check, each, is_empty, is_known, is_column}
use Rattle.plan_meaning.specs.Typing.{unpivot_name_checks, unpivot_type_checks, unpivot_checks, function_checks, AllHold}
use Rattle.plan_frame.specs.Values.{Value, text}
use Rattle.plan_frame.specs.Frames.{Frame, Column, column_names, column_or, table_columns, Agree}
use Rattle.plan_meaning.specs.Relating.{Holding}
use Rattle.plan_meaning.specs.Asked.{function_names, Fair}
use Rattle.plan_frame.proofs.NameSets.{has_first, has_front, has_back, has_later, adds_names}
use Rattle.plan_frame.proofs.FrameLemmas.{or_same}
use Rattle.plan_pruned.proofs.FunctionParts.{FunctionKept, self_holds}
use Rattle.plan_pruned.proofs.NarrowLemmas.{holding_same}

-- what it tells are its value columns
value-is : (args : UnpivotArgsIR) (names : List Name) → is_empty args.on ≡ false → value_names args names ≡ args.on
value-is args names e = at args.on e
  where
    at : (on : List Name) → is_empty on ≡ false → told_names on (only_where (λ (a : Name). not (has args.index a)) names) ≡ on
    at [] q = cc
    at (b ∷ on) q = refl

-- the same for each of some names

pub each_same : (fault : At → PolarsError) (k : ℕ) (p q : Name → Bool) (names : List Name) → ((a : Name) → has names a ≡ true → p a ≡ q a) → each fault k p names ≡ each fault k q names
each_same fault k p q [] by = refl
each_same fault k p q (a ∷ names) by = ap₂ (λ (b : Bool) (cs : List Check). check fault k b ∷ cs) (by a (has_first a names)) (each_same fault (suc k) p q names (λ b i. by b (has_later a names b i)))

all_same : (p q : Name → Bool) (names : List Name) → ((a : Name) → has names a ≡ true → p a ≡ q a) → list_all p names ≡ list_all q names
all_same p q [] by = refl
all_same p q (a ∷ names) by = ap₂ (λ (x y : Bool). x && y) (by a (has_first a names)) (all_same p q names (λ b i. by b (has_later a names b i)))

pub map_same : {X : Type 0} (f g : Name → X) (names : List Name) → ((a : Name) → has names a ≡ true → f a ≡ g a) → map f names ≡ map g names
map_same f g [] by = refl
map_same {X} f g (a ∷ names) by = ap₂ (λ (x : X) (xs : List X). x ∷ xs) (by a (has_first a names)) (map_same f g names (λ b i. by b (has_later a names b i)))

flat_same : (f g : Name → List Value) (names : List Name) → ((a : Name) → has names a ≡ true → f a ≡ g a) → flat_map f names ≡ flat_map g names
flat_same f g [] by = refl
flat_same f g (a ∷ names) by = ap₂ (λ (x y : List Value). x ++ y) (by a (has_first a names)) (flat_same f g names (λ b i. by b (has_later a names b i)))

first_same : (r s : Columns) (names : List Name) → ((a : Name) → has names a ≡ true → type_of r a ≡ type_of s a) → first_type r names ≡ first_type s names
first_same r s [] by = refl
first_same r s (a ∷ names) by = ap (λ (o : Option DataType). unwrap_or o Int64) (by a (has_first a names))

-- what is checked, by the value columns and their type
abbrev checked : UnpivotArgsIR → List Name → DataType → Columns → List Check
checked args names t cs =
    check InvalidOperation 0 (not (is_empty names))
    ∷ (unpivot_name_checks args.on args.index cs
    ++ (unpivot_type_checks args.on names t cs
    ++ check Duplicate 0 (all_differ (unpivoted_names args)) ∷ []))

-- what is given, by the value columns
abbrev shown : UnpivotArgsIR → List Name → Frame → Frame
shown args names g = record {
  height = length names * g.height;
  columns = table_columns args.index (repeated names g) ++ record { name = variable_name args; values = names_down names g } ∷ record { name = value_name args; values = values_down names g } ∷ [];
}

module _ (args : UnpivotArgsIR) (wanted : List Name) (r s : Columns) (some : is_empty args.on ≡ false) (good : AllHold (function_checks (Unpivot args) s)) (fair : Fair wanted (function_schema (Unpivot args) s)) (h : Holding (function_names (Unpivot args) wanted s) r s) where
  -- what it names is needed
  needed : (a : Name) → has (args.index ++ args.on) a ≡ true → has (function_names (Unpivot args) wanted s) a ≡ true
  needed a i = ap (λ (b : Bool). has (cond b [] (with_names [] (args.index ++ args.on))) a) some ∙ adds_names [] (args.index ++ args.on) a i

  of_index : (a : Name) → has args.index a ≡ true → has (function_names (Unpivot args) wanted s) a ≡ true
  of_index a i = needed a (has_front args.index args.on a i)

  of_on : (a : Name) → has args.on a ≡ true → has (function_names (Unpivot args) wanted s) a ≡ true
  of_on a i = needed a (has_back args.index args.on a i)

  types : (a : Name) → has (function_names (Unpivot args) wanted s) a ≡ true → type_of r a ≡ type_of s a
  types a i = holding_same (function_names (Unpivot args) wanted s) r s h a i

  type-same : first_type r args.on ≡ first_type s args.on
  type-same = first_same r s args.on (λ a i. types a (of_on a i))

  known : (a : Name) → has (function_names (Unpivot args) wanted s) a ≡ true → is_known r a ≡ is_known s a
  known a i = ap (λ (o : Option DataType). is_some o) (types a i)

  name-checks : unpivot_name_checks args.on args.index r ≡ unpivot_name_checks args.on args.index s
  unfolding unpivot_name_checks
  name-checks = ap₂ (λ (x y : List Check). x ++ y)
      (each_same SchemaFieldNotFound 1 (is_known r) (is_known s) args.on (λ a i. known a (of_on a i)))
      (each_same SchemaFieldNotFound (suc (length args.on)) (is_known r) (is_known s) args.index (λ a i. known a (of_index a i)))

  type-checks : (t : DataType) → unpivot_type_checks args.on args.on t r ≡ unpivot_type_checks args.on args.on t s
  unfolding unpivot_type_checks
  type-checks t =
      let same : (a : Name) → has args.on a ≡ true → is_column r (a, t) ≡ is_column s (a, t) = λ a i. ap (λ (o : Option DataType). is_type o t) (types a (of_on a i)) in
      ap₂ (λ (x : List Check) (b : Bool). x ++ check SchemaMismatch 0 b ∷ [])
      (each_same SchemaMismatch 1 (λ (a : Name). is_column r (a, t)) (λ (a : Name). is_column s (a, t)) args.on same)
      (all_same (λ (a : Name). is_column r (a, t)) (λ (a : Name). is_column s (a, t)) args.on same)

  checks-same : function_checks (Unpivot args) r ≡ function_checks (Unpivot args) s
  unfolding unpivot_checks
  checks-same =
      let t : DataType = first_type s args.on in
      ap (λ (names : List Name). checked args names (first_type r names) r) (value-is args (names_of r) some)
      ∙ ap (λ (u : DataType). checked args args.on u r) type-same
      ∙ ap₂ (λ (x y : List Check). check InvalidOperation 0 (not (is_empty args.on)) ∷ (x ++ (y ++ check Duplicate 0 (all_differ (unpivoted_names args)) ∷ []))) name-checks (type-checks t)
      ∙ sym (ap (λ (names : List Name). checked args names (first_type s names) s) (value-is args (names_of s) some))

  schema-same : function_schema (Unpivot args) r ≡ function_schema (Unpivot args) s
  schema-same =
      let value : first_type r (value_names args (names_of r)) ≡ first_type s (value_names args (names_of s)) =
      ap (first_type r) (value-is args (names_of r) some) ∙ type-same ∙ sym (ap (first_type s) (value-is args (names_of s) some)) in
      ap₂ (λ (x : Columns) (t : DataType). x ++ (variable_name args, String) ∷ (value_name args, t) ∷ [])
      (map_same (λ (a : Name). (a, type_or r a)) (λ (a : Name). (a, type_or s a)) args.index (λ a i. ap (λ (o : Option DataType). (a, unwrap_or o Int64)) (types a (of_index a i))))
      value

  frames-same : (c : Contents) (f0 g0 : Frame) → Agree (function_names (Unpivot args) wanted s) f0 g0 → mapped c (Unpivot args) f0 ≡ mapped c (Unpivot args) g0
  frames-same c f0 g0 ag =
      let column : (a : Name) → has (function_names (Unpivot args) wanted s) a ≡ true → column_or f0 a ≡ column_or g0 a = λ a i. or_same f0 g0 a a ag.height (ag.same a i) in
      let repeats : table_columns args.index (repeated args.on f0) ≡ table_columns args.index (repeated args.on g0) =
      map_same (λ (a : Name). record { name = a; values = repeated args.on f0 a }) (λ (a : Name). record { name = a; values = repeated args.on g0 a }) args.index (λ a i. ap (λ (vs : List Value). record { name = a; values = flat_map (λ (b : Name). vs) args.on }) (column a (of_index a i))) in
      let variable : names_down args.on f0 ≡ names_down args.on g0 = ap (λ (n : ℕ). flat_map (λ (a : Name). replicate n (text a)) args.on) ag.height in
      let value : values_down args.on f0 ≡ values_down args.on g0 = flat_same (column_or f0) (column_or g0) args.on (λ a i. column a (of_on a i)) in
      ap (λ (names : List Name). shown args names f0) (value-is args (column_names f0.columns) some)
      ∙ ap (λ (n : ℕ). record { height = length args.on * n; columns = table_columns args.index (repeated args.on f0) ++ record { name = variable_name args; values = names_down args.on f0 } ∷ record { name = value_name args; values = values_down args.on f0 } ∷ [] }) ag.height
      ∙ ap (λ (cs : List Column). record { height = length args.on * g0.height; columns = cs ++ record { name = variable_name args; values = names_down args.on f0 } ∷ record { name = value_name args; values = values_down args.on f0 } ∷ [] }) repeats
      ∙ ap₂ (λ (vs ws : List Value). record { height = length args.on * g0.height; columns = table_columns args.index (repeated args.on g0) ++ record { name = variable_name args; values = vs } ∷ record { name = value_name args; values = ws } ∷ [] }) variable value
      ∙ sym (ap (λ (names : List Name). shown args names g0) (value-is args (column_names g0.columns) some))

  pub unpivot_kept : FunctionKept (Unpivot args) wanted r s
  unpivot_kept = record {
    good = subst AllHold (sym checks-same) good;
    schema = subst (λ (x : Columns). Holding wanted x (function_schema (Unpivot args) s)) (sym schema-same) (self_holds wanted (function_schema (Unpivot args) s) fair);
    agrees = λ c f0 g0 hr hs ag. subst (λ (x : Frame). Agree wanted x (mapped c (Unpivot args) g0)) (sym (frames-same c f0 g0 ag)) (record { height = refl; same = λ a i. refl });
  }
