-- What is left of a scan of files that is asked some names.
use Rattle.std.specs.Prelude.{◌≡◌, ◌≤◌, ◌⊎◌, ℕ, Bool, true, false, not, ◌||◌, List, ◌++◌, map, filter, length, Option, None, Some, is_some, option_map, if◌then◌else◌}
use Rattle.std.specs.List.{list_all}
use Rattle.plan_core.specs.Columns.{Columns, HasDistinctNames, names_of, type_of}
use Rattle.plan_core.specs.Names.{has, AreDistinct}
use Rattle.plan_core.specs.declared.options.FileScanOptions.{FileScanOptions}
use Rattle.plan_core.specs.declared.options.RowIndex.{RowIndex}
use Rattle.plan_expr.specs.Leaves.{Name}
use Rattle.plan_frame.specs.Reshaped.{columns_at}
use Rattle.plan_scan.specs.Sources.{sorts_projection}
use Rattle.plan_scan.specs.Stats.{Stats, named_among}
use Rattle.plan_scan.specs.declared.file_scan.FileScan.{FileScan}
use Rattle.plan_scan.specs.declared.stats.ColumnStats.{ColumnStats}
use Rattle.plan_files.specs.FileColumns.{file_columns, hive_columns, path_columns, plain_columns, read_names}
use Rattle.plan_files.specs.FileReads.{is_counted, is_read}
use Rattle.plan_files.specs.HiveParts.{are_alike, are_one_each}

-- the asked columns of a part
abbrev pub left_part : List Name → Stats → Stats
left_part wanted part = filter (λ (s : ColumnStats). has wanted s.field.name) part

-- the asked columns of each part
abbrev pub left_parts : List Name → Option (List Stats) → Option (List Stats)
left_parts wanted hive = option_map (map (left_part wanted)) hive

-- the column that numbers the rows where it is asked
abbrev pub left_row : List Name → Option RowIndex → Option RowIndex
left_row wanted None = None
left_row wanted (Some row) = if has wanted row.name then Some row else None

-- the column with the paths where it is asked
abbrev pub left_path : List Name → Option Name → Option Name
left_path wanted None = None
left_path wanted (Some a) = if has wanted a then Some a else None

-- the options of a scan that is asked these names and reads those
abbrev pub left_options : (wanted reads : List Name) → FileScanOptions → FileScanOptions
left_options wanted reads options = record options { with_columns = Some reads; row_index = left_row wanted options.row_index; include_file_paths = left_path wanted options.include_file_paths }

-- the columns of the files of what is left, by what its reader finds
abbrev pub columns_left : (wanted reads : List Name) → Columns → Option (List Stats) → FileScanOptions → Columns
columns_left wanted reads reader hive options = file_columns reader (hive_columns (left_parts wanted hive)) (left_options wanted reads options)

-- a column is the one with the paths
abbrev pub is_path : Option Name → Name → Bool
is_path path a = has (names_of (path_columns path)) a

-- the names, with that of the column with the paths last
abbrev pub path_last : Option Name → List Name → List Name
path_last path names = filter (λ (a : Name). not (is_path path a)) names ++ filter (is_path path) names

-- whether a scan puts out its columns in the order of its files: of Csv, of Ipc whose rows are numbered, and with hive parts
abbrev pub in_file_order : FileScan → Option (List Stats) → FileScanOptions → Bool
in_file_order kind hive options = sorts_projection kind options || is_some hive

-- what is put out of the columns of files, where these names are asked: in the order of the files or as they are asked, but the paths last
abbrev pub left_output : Bool → Option Name → List Name → Columns → Columns
left_output true path wanted file = named_among wanted file
left_output false path wanted file = columns_at file (path_last path wanted)

-- what laws say

-- each of the names is one of the others
abbrev pub AreAmong : (few names : List Name) → Type 0
AreAmong few names = (a : Name) → has few a ≡ true → has names a ≡ true

-- a reader finds the column, and it is no hive column
abbrev pub Found : (reader hive : Columns) → Name → Type 0
Found reader hive a = (is_some (type_of reader a) ≡ true) × (not (has (names_of hive) a) ≡ true)

-- each of the names is read where it is one of the columns that are read from the files
abbrev pub AreRead : Option (List Name) → Columns → List Name → Type 0
AreRead told plain wanted = (a : Name) → has wanted a ≡ true → is_read told plain a ≡ true

-- columns are left of those of files: no two have one name, the asked ones have the types that they had, and each was there and is found by the reader or asked
pub record AreLeft (wanted : List Name) (reader file left : Columns) : Type 0 where
  pub differ : HasDistinctNames left
  pub typed : (a : Name) → has wanted a ≡ true → type_of left a ≡ type_of file a
  pub few : (a : Name) → has (names_of left) a ≡ true → (has (names_of file) a ≡ true) × ((has (names_of reader) a || has wanted a) ≡ true)

-- parts are left of those of so many sources: they have the asked hive columns, all have the same with values of their types, and there is one for each source
pub record PartsAreLeft (wanted : List Name) (hive left : Option (List Stats)) (sources : ℕ) : Type 0 where
  pub columns : hive_columns left ≡ named_among wanted (hive_columns hive)
  pub alike : are_alike left ≡ true
  pub one_each : are_one_each left sources ≡ true

-- what is read for the asked names: each name once, only what the reader finds and is no hive column and what was read before, each asked name that is one of the columns that are left to be read from the files, and no name that isn't asked; where only the numbers and the paths of the rows are asked, at most one name
pub record ReadsAreLeft (wanted : List Name) (told : Option (List Name)) (reader hive left : Columns) (options : FileScanOptions) (reads : List Name) : Type 0 where
  pub once : AreDistinct reads
  pub found : (a : Name) → has reads a ≡ true → Found reader hive a
  pub before : AreAmong reads (read_names told reader hive)
  pub asked : AreRead (Some reads) (plain_columns reader left) wanted
  pub few : AreAmong reads wanted ⊎ ((list_all (is_counted options) wanted ≡ true) × (length reads ≤ 1))

-- columns have these names, each once, with the types that others give them
pub record AreNamed (wanted : List Name) (file out : Columns) : Type 0 where
  pub named : (a : Name) → has (names_of out) a ≡ has wanted a
  pub typed : (a : Name) → has wanted a ≡ true → type_of out a ≡ type_of file a
  pub once : AreDistinct (names_of out)
