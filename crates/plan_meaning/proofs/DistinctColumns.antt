-- The columns of a valid plan have distinct names.
use Rattle.plan_scan.specs.Sources.{sources_of}
use Rattle.std.proofs.Common.{◌≡◌, length, Bool, true, false, not, ◌&&◌, ◌||◌, cond, List, [], ◌∷◌, ◌++◌, map, fold, refl, sym, ap, ◌∙◌, subst}
use Rattle.std.specs.List.{AllByRecursion, IsDistinct, list_any}
use Rattle.std.specs.Str.{bytes_eq}
use Rattle.std.proofs.lemmas.Bool.{and_parts, not-true, false_from_ne_true, both_ways}
use Rattle.plan_core.specs.declared.data_type.DataType.{DataType}
use Rattle.plan_core.specs.declared.data_type.DataType.TheVariants.{String}
use Rattle.plan_core.specs.Columns.{Columns, HasDistinctNames, names_of}
use Rattle.plan_core.specs.Names.{has, AreDistinct}
use Rattle.plan_core.proofs.ColumnLemmas.{HasDistinctNames-none}
use Rattle.plan_core.proofs.MergeLemmas.{HasDistinctNames-with_type, HasDistinctNames-with_types}
use Rattle.plan_tree.specs.Rose.{Roses, rose, no_roses, more}
use Rattle.plan_ir.specs.declared.functions.FunctionIR.{FunctionIR}
use Rattle.plan_ir.specs.declared.functions.FunctionIR.TheVariants.{Rename, RowIndex, Unpivot, Explode, FastCount}
use Rattle.plan_ir.specs.declared.functions.UnpivotArgsIR.{UnpivotArgsIR}
use Rattle.plan_ir.specs.Plans.{Op, slice, filter, scan, frame_scan, simple_projection, select, hstack, sort, group_by, join, distinct, map_function, sink, union, hconcat, cache, Plan}
use Rattle.plan_expr.specs.Leaves.{Name}
use Rattle.plan_frame.specs.Beside.{in_a_row, with_new}
use Rattle.plan_frame.specs.Grouping.{group_exprs}
use Rattle.plan_frame.specs.Made.{made_column}
use Rattle.plan_frame.specs.Reshaped.{columns_at, renamed_columns}
use Rattle.plan_frame.proofs.MadeColumns.{last_type}
use Rattle.plan_frame.proofs.NameSets.{named, names-append}
use Rattle.plan_frame.proofs.ReshapedLemmas.{names-exploded}
use Rattle.plan_meaning.specs.Checks.{Check, check, each_new}
use Rattle.plan_meaning.specs.Functions.{count_name, become_one, first_type, function_schema, renamed, stay_apart, unpivoted_columns, unpivoted_names, value_name, value_names, variable_name}
use Rattle.plan_meaning.specs.Steps.{IsValid}
use Rattle.plan_meaning.specs.Typing.{columns_or, scan_columns, first_schema, schema, schema_by, schemas, checks, function_checks, rename_checks, row_index_checks, AllHold, AllValid}
use Rattle.plan_meaning.proofs.CheckParts.{hold_back, pass_names, scan_good, frame_good, projection_good}
use Rattle.plan_meaning.proofs.JoinLemmas.{differ_distinct, join_good}
use Rattle.plan_meaning.proofs.UnpivotLemmas.{unpivot_good}
use Rattle.plan_core.specs.declared.error.PolarsError.TheVariants.{Duplicate}

-- renamed names that stay apart

neither : (x y : Bool) → not (x || y) ≡ true → (x ≡ false) × (not y ≡ true)
neither false y h = (refl, h)
neither true y h = cc

apart_now : (now : Name → Name) (a b : Name) → become_one now a b ≡ false → bytes_eq a b ≡ false → bytes_eq (now a) (now b) ≡ false
apart_now now a b h e = at (bytes_eq (now a) (now b)) (subst (λ (x : Bool). (bytes_eq (now a) (now b) && not x) ≡ false) e h)
  where
    at : (x : Bool) → (x && true) ≡ false → x ≡ false
    at true h = cc
    at false h = refl

others_apart : (now : Name → Name) (a : Name) (names : List Name) → not (list_any (become_one now a) names) ≡ true → AllByRecursion (λ (y : Name). bytes_eq a y ≡ false) names → AllByRecursion (λ (y : Name). bytes_eq (now a) y ≡ false) (map now names)
others_apart now a [] h far = tt
others_apart now a (b ∷ names) h far =
    let p = neither (become_one now a b) (list_any (become_one now a) names) h in
    (apart_now now a b p.0 far.0, others_apart now a names p.1 far.1)

renamed_distinct : (now : Name → Name) (names : List Name) → stay_apart now names ≡ true → AreDistinct names → AreDistinct (map now names)
unfolding IsDistinct
renamed_distinct now [] h d = tt
renamed_distinct now (a ∷ names) h d =
    let p = and_parts (not (list_any (become_one now a) names)) (stay_apart now names) h in
    (others_apart now a names p.0 d.0, renamed_distinct now names p.1 d.1)

names-renamed : (now : Name → Name) (s : Columns) → names_of (renamed_columns now s) ≡ map now (names_of s)
names-renamed now [] = refl
names-renamed now (c ∷ s) = ap (λ (x : List Name). now c.0 ∷ x) (names-renamed now s)

new_apart : (a : Name) (names : List Name) → has names a ≡ false → AreDistinct names → AreDistinct (a ∷ names)
unfolding IsDistinct
new_apart a names n d = (
  pass_names (λ (y : Name). bytes_eq a y ≡ false) names (λ y j. false_from_ne_true (bytes_eq a y) (λ q. both_ways (has names a) n (subst (λ (z : Name). has names z ≡ true) (sym (named a y q)) j))),
  d,
)

names-at : (s : Columns) (names : List Name) → names_of (columns_at s names) ≡ names
names-at s [] = refl
names-at s (a ∷ names) = ap (λ (x : List Name). a ∷ x) (names-at s names)

names-unpivoted : (args : UnpivotArgsIR) (s : Columns) → names_of (unpivoted_columns args s) ≡ unpivoted_names args
names-unpivoted args s =
    let own : Columns = (variable_name args, String) ∷ (value_name args, first_type s (value_names args (names_of s))) ∷ [] in
    names-append (columns_at s args.index) own ∙ ap (λ (x : List Name). x ++ names_of own) (names-at s args.index)

-- columns beside one another
next_distinct : (s : Columns) (c : Name × DataType) → HasDistinctNames s → HasDistinctNames (with_new s c)
next_distinct s c d = at (has (names_of s) c.0) refl
  where
    at : (b : Bool) → has (names_of s) c.0 ≡ b → HasDistinctNames (cond b s (s ++ c ∷ []))
    at true e = d
    at false e = subst HasDistinctNames (last_type s c.0 c.1 e) (HasDistinctNames-with_type s c.0 c.1 d)

row_distinct : (s cs : Columns) → HasDistinctNames s → HasDistinctNames (fold with_new s cs)
row_distinct s [] d = d
row_distinct s (c ∷ cs) d = row_distinct (with_new s c) cs (next_distinct s c d)

-- functions
function_distinct : (f : FunctionIR) (s : Columns) → AllHold (function_checks f s) → HasDistinctNames s → HasDistinctNames (function_schema f s)
unfolding rename_checks row_index_checks
function_distinct (Rename existing new swapping) s h d =
    let last : List Check = check Duplicate 0 (stay_apart (renamed existing new) (names_of s)) ∷ [] in
    let apart = hold_back (each_new _ [] new) last (hold_back (each_new 1 [] existing) (each_new _ [] new ++ last) h.1) in
    subst AreDistinct (sym (names-renamed (renamed existing new) s)) (renamed_distinct (renamed existing new) (names_of s) apart.0 d)
function_distinct (RowIndex name offset) s h d = new_apart name (names_of s) (not-true (has (names_of s) name) h.0) d
function_distinct (Unpivot args) s h d =
    subst AreDistinct (sym (names-unpivoted args s)) (differ_distinct (unpivoted_names args) (unpivot_good args s h).differ)
function_distinct (Explode columns) s h d = subst AreDistinct (sym (names-exploded columns s)) d
function_distinct (FastCount sources scan_type alias) s h d = differ_distinct (count_name alias ∷ []) refl

-- no name comes twice among the columns of each of several inputs
abbrev pub AllDistinct : List Columns → Type 0
AllDistinct ss = AllByRecursion HasDistinctNames ss

first_distinct : (ss : List Columns) → AllDistinct ss → HasDistinctNames (first_schema ss)
first_distinct [] d = HasDistinctNames-none
first_distinct (s ∷ ss) d = d.0

-- per node
once_by : (op : Op) (ss : List Columns) → AllHold (checks op ss) → AllDistinct ss → HasDistinctNames (schema_by op ss)
once_by (slice offset len) ss good d = first_distinct ss d
once_by (filter predicate) ss good d = first_distinct ss d
once_by (scan sources info hive predicate output kind options) [] good d = differ_distinct (names_of (columns_or output (scan_columns info hive options))) (scan_good (length (sources_of sources)) predicate output info hive options good).differ
once_by (frame_scan df schema output) [] good d = differ_distinct (names_of (columns_or output schema)) (frame_good df schema output good).differ
once_by (simple_projection columns) (s ∷ []) good d = differ_distinct (names_of columns) (projection_good columns s good).differ
once_by (select es stored options) ss good d = HasDistinctNames-with_types [] (map (made_column (first_schema ss)) es) HasDistinctNames-none
once_by (hstack es stored options) ss good d = HasDistinctNames-with_types (first_schema ss) (map (made_column (first_schema ss)) es) (first_distinct ss d)
once_by (sort keys part options) ss good d = first_distinct ss d
once_by (group_by keys aggs stored ordered options) ss good d = HasDistinctNames-with_types [] (map (made_column (first_schema ss)) (group_exprs keys aggs)) HasDistinctNames-none
once_by (join left_on right_on stored told) (s ∷ t ∷ []) good d = differ_distinct (names_of (schema_by (join left_on right_on stored told) (s ∷ t ∷ []))) (join_good left_on right_on stored told s t good).differ
once_by (distinct options) ss good d = first_distinct ss d
once_by (map_function function) (s ∷ []) good d = function_distinct function s good d.0
once_by (sink payload) ss good d = first_distinct ss d
once_by (union options) ss good d = first_distinct ss d
once_by (hconcat schema options) ss good d = row_distinct [] (in_a_row ss) HasDistinctNames-none
once_by (cache id hits) ss good d = first_distinct ss d
once_by op ss good d = cc

-- of valid plans
all_once : (ts : Roses (Unit {0}) Op) → AllValid ts → AllDistinct (schemas ts)
all_once no_roses v = tt
all_once (more (rose n op ts) rest) v = (once_by op (schemas ts) v.0 (all_once ts v.1), all_once rest v.2)

-- of a valid plan
pub valid_once : (p : Plan) → IsValid p → HasDistinctNames (schema p)
valid_once (rose n op ts) v = once_by op (schemas ts) v.0 (all_once ts v.1)
