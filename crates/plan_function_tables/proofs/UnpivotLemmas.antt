-- Unpivots: names that differ, values for each of some columns, and columns one after another.
use Rattle.std.proofs.Common.{◌≡◌, ◌∙◌, ◌++◌, Bool, true, false, not, List, [], ◌∷◌, refl, sym, ap, ap₂, subst, append_assoc}
use Rattle.std.specs.List.{IsDistinct, flat_map}
use Rattle.std.proofs.lemmas.Bool.{and_parts, not-true}
use Rattle.std.proofs.lemmas.List.{map-append}
use Rattle.plan_core.specs.Columns.{Columns, HasDistinctNames, names_of}
use Rattle.plan_core.specs.Names.{has, AreDistinct}
use Rattle.plan_expr.specs.Leaves.{Name}
use Rattle.plan_ir.specs.declared.functions.UnpivotArgsIR.{UnpivotArgsIR}
use Rattle.plan_frame.specs.Frames.{column_names}
use Rattle.plan_meaning.specs.Functions.{all_differ, unpivoted_names, value_name, variable_name}
use Rattle.plan_frame.specs.Reshaped.{columns_at}
use Rattle.plan_frame.proofs.NameSets.{names-append}
use Rattle.plan_schema.proofs.UnpivotColumns.{differ_front, names-at}
use Rattle.plan_table.specs.declared.column.Column.{Column as Typed}
use Rattle.plan_table.specs.Tables.{types_of, with_column}
use Rattle.plan_table.proofs.ColumnLemmas.{put-last}
use Rattle.plan_value.specs.Shown.{columns_shown}
use Rattle.plan_function_tables.proofs.FunctionLemmas.{none-is}

-- names that differ are distinct
pub distinct-differ : (names : List Name) → all_differ names ≡ true → AreDistinct names
unfolding IsDistinct
distinct-differ [] e = tt
distinct-differ (a ∷ names) e =
    let parts = and_parts (not (has names a)) (all_differ names) e in
    (none-is a names (not-true (has names a) parts.0), distinct-differ names parts.1)

-- columns have the same names as columns of frames, and as names with types
pub names-shown : (cs : List Typed) → column_names (columns_shown cs) ≡ names_of (types_of cs)
names-shown [] = refl
names-shown (c ∷ cs) = ap (λ (names : List Name). c.name ∷ names) (names-shown cs)

-- nothing, however often
pub nothing-down : {X Y : Type 0} (xs : List X) → flat_map (λ (x : X). let none : List Y = [] in none) xs ≡ []
nothing-down [] = refl
nothing-down (x ∷ xs) = nothing-down xs

-- names of which none stands twice have none twice before others
pub differ-before : (names rest : List Name) → all_differ (names ++ rest) ≡ true → all_differ names ≡ true
differ-before names rest e = at (all_differ names) refl
  where
    at : (t : Bool) → all_differ names ≡ t → t ≡ true
    at true p = refl
    at false p = sym (differ_front names rest p) ∙ e

-- an unpivot's own columns go last
pub put-own : (args : UnpivotArgsIR) (s : Columns) (done : List Typed) (c d : Typed) → all_differ (unpivoted_names args) ≡ true → types_of done ≡ columns_at s args.index → c.name ≡ variable_name args → d.name ≡ value_name args → with_column (with_column done c) d ≡ done ++ c ∷ d ∷ []
put-own args s done c d differ types first second =
    let split : (done ++ c ∷ []) ++ d ∷ [] ≡ done ++ c ∷ d ∷ [] = append_assoc done (c ∷ []) (d ∷ []) in
    let own : names_of (types_of (done ++ c ∷ d ∷ [])) ≡ unpivoted_names args =
    ap names_of (map-append (λ (x : Typed). (x.name, x.dtype)) done (c ∷ d ∷ []))
    ∙ names-append (types_of done) (types_of (c ∷ d ∷ []))
    ∙ ap (λ (cs : Columns). names_of cs ++ c.name ∷ d.name ∷ []) types
    ∙ ap (λ (names : List Name). names ++ c.name ∷ d.name ∷ []) (names-at s args.index)
    ∙ ap₂ (λ (a b : Name). args.index ++ a ∷ b ∷ []) first second
    in
    let once : HasDistinctNames (types_of (done ++ c ∷ d ∷ [])) = subst AreDistinct (sym own) (distinct-differ (unpivoted_names args) differ) in
    ap (λ (cs : List Typed). with_column cs d) (put-last done (d ∷ []) c once)
    ∙ put-last (done ++ c ∷ []) [] d (subst (λ (cs : List Typed). HasDistinctNames (types_of cs)) (sym split) once)
    ∙ split
