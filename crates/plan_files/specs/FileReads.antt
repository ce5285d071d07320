-- Which columns a scan may read for what it is asked.
use Rattle.std.specs.Prelude.{Bool, true, not, ◌||◌, List, [], ◌∷◌, filter, Option, None, Some, if◌then◌else◌}
use Rattle.std.specs.List.{list_all}
use Rattle.plan_core.specs.Columns.{Columns, names_of}
use Rattle.plan_core.specs.Names.{has}
use Rattle.plan_core.specs.declared.options.FileScanOptions.{FileScanOptions}
use Rattle.plan_expr.specs.Leaves.{Name}
use Rattle.plan_scan.specs.declared.file_scan.FileScan.{FileScan}
use Rattle.plan_scan.specs.declared.file_scan.FileScan.TheVariants as kinds
use Rattle.plan_files.specs.FileColumns.{path_columns, row_columns}

-- a name is among those told; where none are told, each is
abbrev pub is_told : Option (List Name) → Name → Bool
is_told None a = true
is_told (Some told) a = has told a

-- a name is read where it is one of the columns that are read from the files
abbrev pub is_read : Option (List Name) → Columns → Name → Bool
is_read told plain a = not (has (names_of plain) a) || is_told told a

-- the column numbers the rows, or has their paths
abbrev pub is_counted : FileScanOptions → Name → Bool
is_counted options a = has (names_of (row_columns options.row_index)) a || has (names_of (path_columns options.include_file_paths)) a

-- the column isn't read from the files: it numbers the rows, has their paths, or is a hive column
abbrev pub is_given : Columns → FileScanOptions → Name → Bool
is_given hive options a = is_counted options a || has (names_of hive) a

-- the asked names that are read from the files
abbrev pub own_names : List Name → Columns → FileScanOptions → List Name
own_names wanted hive options = filter (λ (a : Name). not (is_given hive options a)) wanted

-- the first of some names, alone; none where there is none
abbrev pub first_alone : List Name → List Name
first_alone [] = []
first_alone (a ∷ names) = a ∷ []

-- what a scan reads so that it sees its rows: of a text format the first column that it read
abbrev pub stand_in : FileScan → List Name → List Name
stand_in kinds.Csv reads = first_alone reads
stand_in kinds.NDJson reads = first_alone reads
stand_in kinds.Parquet reads = []
stand_in kinds.Ipc reads = []

-- the names that a scan reads which is asked some: those of its files, or where only the numbers and the paths of its rows are asked what stands in for these
abbrev pub left_names : FileScan → List Name → (reads : List Name) → Columns → FileScanOptions → List Name
left_names kind wanted reads hive options =
    if list_all (is_counted options) wanted then stand_in kind reads else own_names wanted hive options
