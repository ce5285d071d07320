-- Unpivots: what their checks say, that what they give has its columns, and what they ask.
use Rattle.std.proofs.Common.{◌≡◌, suc, ◌*◌, Bool, true, false, cond, List, [], ◌∷◌, ◌++◌, length, replicate, Option, Some, None, is_some, unwrap_or, refl, sym, ◌∙◌, subst, ⊎_elim}
use Rattle.std.specs.List.{AllByRecursion, list_all}
use Rattle.std.proofs.lemmas.Bool.{and_parts, not-true}
use Rattle.std.proofs.lemmas.List.{length-replicate}
use Rattle.plan_core.specs.declared.data_type.DataType.{DataType}
use Rattle.plan_core.specs.declared.data_type.DataType.TheVariants.{Int64, String}
use Rattle.plan_core.specs.declared.error.PolarsError.TheVariants.{SchemaFieldNotFound, SchemaMismatch, Duplicate}
use Rattle.plan_core.specs.Columns.{Columns, names_of, type_of}
use Rattle.plan_core.specs.Names.{has, with_names, AreDistinct}
use Rattle.plan_ir.specs.declared.functions.UnpivotArgsIR.{UnpivotArgsIR}
use Rattle.plan_expr.specs.Leaves.{Name}
use Rattle.plan_meaning.specs.Functions.{value_names, variable_name, value_name, unpivoted_names, all_differ, first_type, unpivoted_columns}
use Rattle.plan_frame.specs.Reshaped.{type_or, columns_at, repeated, names_down, values_down}
use Rattle.plan_meaning.specs.Checks.{Check, check, each, is_column, is_empty, is_known}
use Rattle.plan_meaning.specs.Typing.{unpivot_name_checks, unpivot_type_checks, unpivot_checks, AllHold}
use Rattle.plan_frame.specs.Values.{text}
use Rattle.plan_frame.specs.Frames.{Frame, column_or, table_columns, HaveTypes, HasSchema}
use Rattle.plan_meaning.specs.Mapped.{unpivoted}
use Rattle.plan_meaning.specs.Asked.{unpivot_names}
use Rattle.plan_frame.proofs.NameSets.{has_either, from_names, distinct_names, distinct_none, some-type_of}
use Rattle.plan_meaning.proofs.CheckParts.{hold_front, hold_back, each_pass, name_passes}
use Rattle.plan_frame.proofs.FrameLemmas.{is_type_some, replicate_of, weaker}
use Rattle.plan_frame.proofs.ReshapedLemmas.{names-shown, have_append, IsFilled, tables_have, flat_filled, each_of, typed_filled}

-- what the checks on an unpivot say, part by part
pub record UnpivotGood (args : UnpivotArgsIR) (s : Columns) : Type 0 where
  pub some : is_empty (value_names args (names_of s)) ≡ false
  pub told : AllByRecursion (λ (a : Name). is_known s a ≡ true) args.on
  pub repeats : AllByRecursion (λ (a : Name). is_known s a ≡ true) args.index
  pub alike : AllByRecursion (λ (a : Name). is_column s (a, first_type s (value_names args (names_of s))) ≡ true) (value_names args (names_of s))
  pub differ : all_differ (unpivoted_names args) ≡ true

all_pass : {X : Type 0} (test : X → Bool) (xs : List X) → list_all test xs ≡ true → AllByRecursion (λ (x : X). test x ≡ true) xs
all_pass test [] e = tt
all_pass test (x ∷ xs) e = let p = and_parts (test x) (list_all test xs) e in (p.0, all_pass test xs p.1)

pub unpivot_good : (args : UnpivotArgsIR) (s : Columns) → AllHold (unpivot_checks args s) → UnpivotGood args s
unfolding unpivot_checks unpivot_name_checks unpivot_type_checks
unpivot_good args s h =
    let names : List Name = value_names args (names_of s) in
    let has_type : Name → Bool = λ a. is_column s (a, first_type s names) in
    let told : List Check = each SchemaFieldNotFound 1 (is_known s) args.on in
    let repeats : List Check = each SchemaFieldNotFound (suc (length args.on)) (is_known s) args.index in
    let each_typed : List Check = each SchemaMismatch 1 has_type args.on in
    let all_typed : List Check = check SchemaMismatch 0 (list_all has_type names) ∷ [] in
    let last : List Check = check Duplicate 0 (all_differ (unpivoted_names args)) ∷ [] in
    let known = hold_front (told ++ repeats) ((each_typed ++ all_typed) ++ last) h.1 in
    let rest = hold_back (told ++ repeats) ((each_typed ++ all_typed) ++ last) h.1 in
    let typed = hold_back each_typed all_typed (hold_front (each_typed ++ all_typed) last rest) in
    let apart = hold_back (each_typed ++ all_typed) last rest in
    record {
      some = not-true (is_empty names) h.0;
      told = each_pass SchemaFieldNotFound 1 (is_known s) args.on (hold_front told repeats known);
      repeats = each_pass SchemaFieldNotFound (suc (length args.on)) (is_known s) args.index (hold_back told repeats known);
      alike = all_pass has_type names typed.0;
      differ = apart.0;
    }

known_type : (s : Columns) (a : Name) → is_known s a ≡ true → type_of s a ≡ Some (type_or s a)
known_type s a e = at (type_of s a) e
  where
    at : (o : Option DataType) → is_some o ≡ true → o ≡ Some (unwrap_or o Int64)
    at None q = cc
    at (Some t) q = refl

-- what an unpivot makes of a frame has its columns
pub unpivoted_has : (args : UnpivotArgsIR) (s : Columns) (g : Frame) → AllHold (unpivot_checks args s) → HasSchema g s → HasSchema (unpivoted args g) (unpivoted_columns args s)
unpivoted_has args s g holds k =
    subst (λ (names : List Name). HaveTypes (length (value_names args names) * g.height) (table_columns args.index (repeated (value_names args names) g) ++ record { name = variable_name args; values = names_down (value_names args names) g } ∷ record { name = value_name args; values = values_down (value_names args names) g } ∷ []) (unpivoted_columns args s))
    (sym (names-shown g s k))
    (have_append (length names * g.height) (table_columns args.index (repeated names g)) _ (columns_at s args.index) _
    (tables_have (length names * g.height) s (repeated names g) args.index (weaker (λ (a : Name). is_known s a ≡ true) (λ (a : Name). IsFilled (type_or s a) (length names * g.height) (repeated names g a)) args.index (λ a e. repeats a e) good.repeats))
    (refl, down.long, down.typed, (refl, values.long, values.typed, tt)))
  where
    names : List Name
    names = value_names args (names_of s)

    good : UnpivotGood args s
    good = unpivot_good args s holds

    repeats : (a : Name) → is_known s a ≡ true → IsFilled (type_or s a) (length names * g.height) (repeated names g a)
    repeats a e = flat_filled (type_or s a) g.height (λ (b : Name). column_or g a) names (each_of (λ (b : Name). IsFilled (type_or s a) g.height (column_or g a)) names (λ b. typed_filled g s a (type_or s a) k (known_type s a e)))

    down : IsFilled String (length names * g.height) (names_down names g)
    down = flat_filled String g.height (λ (a : Name). replicate g.height (text a)) names (each_of (λ (a : Name). IsFilled String g.height (replicate g.height (text a))) names (λ a. record { long = length-replicate g.height (text a); typed = replicate_of String (text a) g.height tt }))

    values : IsFilled (first_type s names) (length names * g.height) (values_down names g)
    values = flat_filled (first_type s names) g.height (column_or g) names (weaker (λ (a : Name). is_column s (a, first_type s names) ≡ true) (λ (a : Name). IsFilled (first_type s names) g.height (column_or g a)) names (λ a e. typed_filled g s a (first_type s names) k (is_type_some (type_of s a) (first_type s names) e)) good.alike)

-- what an unpivot asks

-- no name stands twice among those that it needs
pub unpivot_apart : (args : UnpivotArgsIR) → AreDistinct (unpivot_names args)
unpivot_apart args = at (is_empty args.on)
  where
    at : (t : Bool) → AreDistinct (cond t [] (with_names [] (args.index ++ args.on)))
    at true = distinct_none
    at false = distinct_names [] (args.index ++ args.on) distinct_none

-- and each is a column of its input
pub unpivot_known : (args : UnpivotArgsIR) (s : Columns) → AllHold (unpivot_checks args s) → (a : Name) → has (unpivot_names args) a ≡ true → has (names_of s) a ≡ true
unpivot_known args s holds a i = at (is_empty args.on) i
  where
    good : UnpivotGood args s
    good = unpivot_good args s holds

    among : (names : List Name) → AllByRecursion (λ (b : Name). is_known s b ≡ true) names → has names a ≡ true → has (names_of s) a ≡ true
    among names k j = sym (some-type_of s a) ∙ name_passes (λ (b : Name). is_known s b ≡ true) names k a j

    at : (t : Bool) → has (cond t [] (with_names [] (args.index ++ args.on))) a ≡ true → has (names_of s) a ≡ true
    at true j = cc
    at false j = ⊎_elim
        (λ (e : false ≡ true). cc)
        (λ (e : has (args.index ++ args.on) a ≡ true). ⊎_elim (λ (f : has args.index a ≡ true). among args.index good.repeats f) (λ (f : has args.on a ≡ true). among args.on good.told f) (has_either args.index args.on a e))
        (from_names [] (args.index ++ args.on) a j)
