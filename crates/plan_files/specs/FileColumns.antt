-- The columns of the files of a scan, and which of them it reads.
use Rattle.std.specs.Prelude.{not, ◌&&◌, List, [], ◌∷◌, ◌++◌, map, filter, fold, Option, None, Some, unwrap_or}
use Rattle.plan_core.specs.Columns.{Columns, names_of, type_of}
use Rattle.plan_core.specs.Names.{has}
use Rattle.plan_core.specs.declared.data_type.DataType.{DataType}
use Rattle.plan_core.specs.declared.data_type.DataType.TheVariants.{Int64, String}
use Rattle.plan_core.specs.declared.options.FileScanOptions.{FileScanOptions}
use Rattle.plan_core.specs.declared.options.RowIndex.{RowIndex}
use Rattle.plan_expr.specs.Leaves.{Name}
use Rattle.plan_files.specs.declared.columns.FileColumns.{FileColumns}
use Rattle.plan_frame.specs.Beside.{with_new}
use Rattle.plan_frame.specs.Frames.{names_or}
use Rattle.plan_scan.specs.Stats.{Stats, columns_of}

-- the hive columns of several sources: those of the first; none where no part is given
abbrev pub hive_columns : Option (List Stats) → Columns
hive_columns None = []
hive_columns (Some []) = []
hive_columns (Some (part ∷ parts)) = columns_of part

-- the column that numbers the rows, where one does
abbrev pub row_columns : Option RowIndex → Columns
row_columns None = []
row_columns (Some row) = (row.name, Int64) ∷ []

-- the column with the path of each row, where there is one
abbrev pub path_columns : Option Name → Columns
path_columns None = []
path_columns (Some a) = (a, String) ∷ []

-- a column that a reader finds: with its hive type where it is a hive column
abbrev pub found_column : Columns → Name × DataType → Name × DataType
found_column hive c = (c.0, unwrap_or (type_of hive c.0) c.1)

-- the hive columns that a reader doesn't find
abbrev pub lacking : (reader hive : Columns) → Columns
lacking reader hive = filter (λ (c : Name × DataType). not (has (names_of reader) c.0)) hive

-- the columns that a reader finds, with their hive types, and then the hive columns that it doesn't find
abbrev pub found_columns : (reader hive : Columns) → Columns
found_columns reader hive = map (found_column hive) reader ++ lacking reader hive

-- the columns of files in order: the one that numbers the rows, those that a reader finds, the hive columns that it doesn't find, and the one with the paths
abbrev pub file_columns : (reader hive : Columns) → FileScanOptions → Columns
file_columns reader hive options = row_columns options.row_index ++ (found_columns reader hive ++ path_columns options.include_file_paths)

-- the columns that a reader finds but for hive columns, in order
abbrev pub plain_columns : (reader hive : Columns) → Columns
plain_columns reader hive = filter (λ (c : Name × DataType). not (has (names_of hive) c.0)) reader

-- the names of the columns that a scan reads from its files: those that it is told, else all that a reader finds but for hive columns
abbrev pub read_names : Option (List Name) → (reader hive : Columns) → List Name
read_names told reader hive = names_or told (names_of (plain_columns reader hive))

-- columns of files with one more, where none has its name; they don't all differ where one has
abbrev pub with_next : FileColumns → Name × DataType → FileColumns
with_next columns c = record { schema = with_new columns.schema c; differ = columns.differ && not (has (names_of columns.schema) c.0) }

-- columns of files with more, one after another
abbrev pub with_all : FileColumns → Columns → FileColumns
with_all columns cs = fold with_next columns cs
