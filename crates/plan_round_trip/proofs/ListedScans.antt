-- What is left of a scan of files that is asked names is read again of what is written for it.
use Rattle.std.proofs.Common.{◌≡◌, Bool, true, false, cond, List, [], ◌∷◌, map, Option, Some, None, refl, ap, subst}
use Rattle.std.specs.List.{list_any, AllByRecursion, filter as only_where}
use Rattle.std.specs.Str.{bytes_eq}
use Rattle.plan_core.specs.Columns.{Columns}
use Rattle.plan_core.specs.Names.{has}
use Rattle.plan_core.specs.declared.options.FileScanOptions.{FileScanOptions}
use Rattle.plan_core.specs.declared.options.RowIndex.{RowIndex}
use Rattle.plan_expr.specs.Leaves.{Name}
use Rattle.plan_scan.specs.Stats.{Stats, columns_of}
use Rattle.plan_scan.specs.declared.stats.ColumnStats.{ColumnStats}
use Rattle.plan_file_scan.specs.Left.{left_options, left_part, left_parts, left_path, left_row}
use Rattle.plan_meaning.proofs.KeptExprs.{all_where}
use Rattle.plan_doc_parts.specs.Parts.{◌>>=◌, are_distinct, column_names, distinct_columns, each, nullable}
use Rattle.plan_doc_parts.proofs.DistinctLemmas.{either_false, none_else, none_of}
use Rattle.plan_doc_parts.proofs.EntryLemmas.{bind_some, some_is}
use Rattle.plan_doc_scans.specs.Hive.{distinct_stats, hive_column_of, hive_part_of, hive_parts_of}
use Rattle.plan_doc_scans.specs.Scans.{row_index_of}
use Rattle.plan_text_pieces.specs.Hive.{hive_column_data, hive_part_data, hive_parts_data}
use Rattle.plan_text_pieces.specs.Values.{nullable_data, row_index_data}
use Rattle.plan_round_trip.proofs.Lists.{each_parts, entries_again, list_parts, list_read, nullable_inner, nullable_read}
use Rattle.plan_round_trip.proofs.Steps.{Again}
use Rattle.plan_round_trip.proofs.Told.{ToldReading}
use Rattle.plan_round_trip.proofs.Values.{hive_part_read, no_parts}
use Rattle.plan_round_trip.proofs.ListedParts.{ToldHive}

abbrev ToldRow : Option RowIndex → Type 0
ToldRow row = Again (nullable row_index_of) (nullable_data row_index_data) row

-- ---- hive parts

abbrev ToldColumn : ColumnStats → Type 0
ToldColumn s = Again hive_column_of hive_column_data s

abbrev ToldPart : Stats → Type 0
ToldPart ss = Again hive_part_of hive_part_data ss

-- a part that is read again has columns that are, of which no two have one name
part_columns : (ss : Stats) → ToldPart ss → AllByRecursion ToldColumn ss × (are_distinct bytes_eq (column_names (columns_of ss)) ≡ true)
unfolding hive_part_of
part_columns ss t =
    let e : (each hive_column_of (map hive_column_data ss) >>= λ (us : Stats). distinct_stats us) ≡ Some ss = rw (entries_again hive_column_data ss) at t in
    let a = bind_some (each hive_column_of (map hive_column_data ss)) (λ us. distinct_stats us) ss e in
    let d = bind_some (distinct_columns (columns_of a.0)) (λ named. Some a.0) ss a.2 in
    let same : a.0 ≡ ss = some_is a.0 ss d.2 in (
      each_parts hive_column_of hive_column_data ss (subst (λ (us : Stats). each hive_column_of (map hive_column_data ss) ≡ Some us) same a.1),
      subst (λ (us : Stats). are_distinct bytes_eq (column_names (columns_of us)) ≡ true) same (tested (are_distinct bytes_eq (column_names (columns_of a.0))) (columns_of a.0) d.0 d.1),
    )
  where
    tested : (b : Bool) (cs named : Columns) → cond b (Some cs) None ≡ Some named → b ≡ true
    tested true cs named e = refl
    tested false cs named e = absurd cc

module _ (test : ColumnStats → Bool) where
  few_there : (n : Name) (ss : Stats) → list_any (λ (m : Name). bytes_eq m n) (column_names (columns_of ss)) ≡ false → list_any (λ (m : Name). bytes_eq m n) (column_names (columns_of (only_where test ss))) ≡ false
  few_there n [] e = refl
  few_there n (s ∷ ss) e =
      let p = none_else (bytes_eq s.field.name n) (list_any (λ (m : Name). bytes_eq m n) (column_names (columns_of ss))) e in
      at (test s) p.0 (few_there n ss p.1)
    where
      at : (t : Bool) → bytes_eq s.field.name n ≡ false → list_any (λ (m : Name). bytes_eq m n) (column_names (columns_of (only_where test ss))) ≡ false → list_any (λ (m : Name). bytes_eq m n) (column_names (columns_of (cond t (s ∷ only_where test ss) (only_where test ss)))) ≡ false
      at true first r = either_false (bytes_eq s.field.name n) (list_any (λ (m : Name). bytes_eq m n) (column_names (columns_of (only_where test ss)))) (first, r)
      at false first r = r

  -- columns of which no two have one name, and the columns among them that pass a test
  few_distinct : (ss : Stats) → are_distinct bytes_eq (column_names (columns_of ss)) ≡ true → are_distinct bytes_eq (column_names (columns_of (only_where test ss))) ≡ true
  few_distinct [] e = refl
  few_distinct (s ∷ ss) e =
      let p = none_of (list_any (λ (m : Name). bytes_eq m s.field.name) (column_names (columns_of ss))) (are_distinct bytes_eq (column_names (columns_of ss))) e in
      at (test s) (few_there s.field.name ss p.0) (few_distinct ss p.1)
    where
      at : (t : Bool) → list_any (λ (m : Name). bytes_eq m s.field.name) (column_names (columns_of (only_where test ss))) ≡ false → are_distinct bytes_eq (column_names (columns_of (only_where test ss))) ≡ true → are_distinct bytes_eq (column_names (columns_of (cond t (s ∷ only_where test ss) (only_where test ss)))) ≡ true
      at true first r = rw (first, r) refl
      at false first r = r

part_left : (wanted : List Name) (ss : Stats) → ToldPart ss → ToldPart (left_part wanted ss)
part_left wanted ss t =
    let test = λ (s : ColumnStats). has wanted s.field.name in
    let p = part_columns ss t in
    hive_part_read (only_where test ss) (columns_of (only_where test ss)) (all_where ToldColumn test ss p.0) (rw (few_distinct test ss p.1) refl)

parts_left : (wanted : List Name) (ps : List Stats) → AllByRecursion ToldPart ps → AllByRecursion ToldPart (map (left_part wanted) ps)
parts_left wanted [] a = tt
parts_left wanted (ss ∷ ps) a = (part_left wanted ss a.0, parts_left wanted ps a.1)

all_left : (wanted : List Name) (ps : List Stats) → Again hive_parts_of hive_parts_data ps → Again hive_parts_of hive_parts_data (map (left_part wanted) ps)
unfolding hive_parts_of
all_left wanted ps e = list_read hive_part_of hive_part_data (map (left_part wanted) ps) (parts_left wanted ps (list_parts hive_part_of hive_part_data ps e))

pub hive_left : (wanted : List Name) (hive : Option (List Stats)) → ToldHive hive → ToldHive (left_parts wanted hive)
hive_left wanted None t = refl
hive_left wanted (Some ps) t =
    nullable_read hive_parts_of hive_parts_data (map (left_part wanted) ps) no_parts (all_left wanted ps (nullable_inner hive_parts_of hive_parts_data (hive_parts_data ps) ps t))

-- ---- what is read, and what is put beside it

row_left : (wanted : List Name) (row : Option RowIndex) → ToldRow row → ToldRow (left_row wanted row)
row_left wanted None t = refl
row_left wanted (Some row) t = at (has wanted row.name)
  where
    at : (b : Bool) → ToldRow (cond b (Some row) None)
    at true = t
    at false = refl

pub reading_left : (wanted reads : List Name) (options : FileScanOptions) → ToldReading options → ToldReading (left_options wanted reads options)
reading_left wanted reads options t =
    let row = left_row wanted options.row_index in
    let path = left_path wanted options.include_file_paths in
    record {
      slice = t.slice;
      row = row_left wanted options.row_index t.row;
      rest = ap (λ (o : FileScanOptions). record o { with_columns = Some reads; row_index = row; include_file_paths = path }) t.rest;
    }
