-- The columns of valid plans are read again: no two have one name.
use Rattle.std.proofs.Common.{◌≡◌, ℕ, true, false, List, length, Option, Some, None, refl, sym, ap, subst}
use Rattle.std.specs.List.{AllByRecursion}
use Rattle.plan_core.specs.Columns.{Columns, HasDistinctNames, names_of}
use Rattle.plan_core.specs.declared.options.FileScanOptions.{FileScanOptions}
use Rattle.plan_tree.specs.Rose.{Roses, rose, no_roses, more, items}
use Rattle.plan_expr.specs.Exprs.{Named}
use Rattle.plan_ir.specs.Plans.{Op, cache, distinct, filter, frame_scan, group_by, hconcat, hstack, invalid, join, map_function, scan, select, simple_projection, sink, slice, sort, union}
use Rattle.plan_ir.specs.declared.scan.FileInfo.{FileInfo}
use Rattle.plan_scan.specs.Sources.{sources_of}
use Rattle.plan_scan.specs.Stats.{Stats}
use Rattle.plan_meaning.specs.Steps.{IsValid}
use Rattle.plan_meaning.specs.Typing.{AllHold, AllValid, first_schema, scan_checks, scan_columns, schema_by, schemas}
use Rattle.plan_meaning.proofs.CheckParts.{same_is, scan_good}
use Rattle.plan_meaning.proofs.DistinctColumns.{valid_once}
use Rattle.plan_meaning.proofs.JoinLemmas.{differ_distinct}
use Rattle.plan_schema.specs.Stored.{stored_all, stored_by}
use Rattle.plan_schema.proofs.StoredLemmas.{stored-schemas}
use Rattle.plan_round_trip.proofs.Told.{ToldColumns}
use Rattle.plan_round_trip.proofs.Trees.{all_append}
use Rattle.plan_round_trip.proofs.Distinct.{columns_told, some_told}
use Rattle.plan_round_trip.proofs.ListedParts.{ColumnsTold}

-- no two of the columns that a valid plan says it has have one name
stored_once : (n : Unit {0}) (op : Op) (ts : Roses (Unit {0}) Op) → IsValid (rose n op ts) → HasDistinctNames (stored_by op (stored_all ts))
stored_once n op ts v =
    let is : stored_by op (stored_all ts) ≡ schema_by op (schemas ts) = ap first_schema (stored-schemas (more (rose n op ts) no_roses) (v.0, v.1, tt)) in
    subst HasDistinctNames (sym is) (valid_once (rose n op ts) v)

-- nor of those that a scan stores
file_once : (sources : ℕ) (predicate : Option Named) (output : Option Columns) (info : FileInfo) (hive : Option (List Stats)) (options : FileScanOptions) → AllHold (scan_checks sources predicate output info hive options) → ToldColumns info.schema
file_once sources predicate output info hive options h =
    let g = scan_good sources predicate output info hive options h in
    let file = scan_columns info hive options in
    columns_told info.schema (subst HasDistinctNames (sym (same_is info.schema file g.stored)) (differ_distinct (names_of file) g.apart))

columns_valid : (n : Unit {0}) (op : Op) (ts : Roses (Unit {0}) Op) → IsValid (rose n op ts) → ColumnsTold op
columns_valid n (slice offset count) ts v = tt
columns_valid n (filter predicate) ts v = tt
columns_valid n (scan from info hive predicate None format options) no_roses v =
    (file_once (length (sources_of from)) predicate None info hive options v.0, refl)
columns_valid n (scan from info hive predicate (Some out) format options) no_roses v =
    (file_once (length (sources_of from)) predicate (Some out) info hive options v.0, some_told out (stored_once n (scan from info hive predicate (Some out) format options) no_roses v))
columns_valid n (scan from info hive predicate output format options) (more (rose m op kids) rest) v = let bad : false ≡ true = v.0.0 in absurd cc
columns_valid n (frame_scan df schema None) ts v = refl
columns_valid n (frame_scan df schema (Some out)) ts v = some_told out (stored_once n (frame_scan df schema (Some out)) ts v)
columns_valid n (simple_projection columns) ts v = columns_told columns (stored_once n (simple_projection columns) ts v)
columns_valid n (select own schema options) ts v = columns_told schema (stored_once n (select own schema options) ts v)
columns_valid n (hstack own schema options) ts v = columns_told schema (stored_once n (hstack own schema options) ts v)
columns_valid n (sort keys cut options) ts v = tt
columns_valid n (group_by keys aggs schema ordered options) ts v = columns_told schema (stored_once n (group_by keys aggs schema ordered options) ts v)
columns_valid n (join left_on right_on schema told) ts v = columns_told schema (stored_once n (join left_on right_on schema told) ts v)
columns_valid n (distinct options) ts v = tt
columns_valid n (map_function function) ts v = tt
columns_valid n (sink payload) ts v = tt
columns_valid n (union options) ts v = tt
columns_valid n (hconcat schema options) ts v = columns_told schema (stored_once n (hconcat schema options) ts v)
columns_valid n (cache id hits) ts v = tt
columns_valid n invalid ts v = tt

-- the columns of valid plans are read again
pub valid_columns : (ts : Roses (Unit {0}) Op) → AllValid ts → AllByRecursion ColumnsTold (items ts)
valid_columns no_roses v = tt
valid_columns (more (rose n op ts) rest) v =
    (columns_valid n op ts (v.0, v.1), all_append ColumnsTold (items ts) (items rest) (valid_columns ts v.1) (valid_columns rest v.2))
