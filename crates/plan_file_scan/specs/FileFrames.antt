-- The frame of a scan of files: the tables of its sources one after another, beside what isn't read from them.
use Rattle.std.specs.Prelude.{◌≡◌, ℕ, true, ◌+◌, List, [], ◌∷◌, ◌++◌, Option, None, Some, replicate, if◌then◌else◌}
use Rattle.std.specs.Str.{bytes_eq}
use Rattle.plan_core.specs.Columns.{Columns}
use Rattle.plan_core.specs.declared.options.FileScanOptions.{FileScanOptions}
use Rattle.plan_core.specs.declared.options.RowIndex.{RowIndex}
use Rattle.plan_expr.specs.Leaves.{Name}
use Rattle.plan_files.specs.HiveParts.{are_typed}
use Rattle.plan_frame.specs.Frames.{Frame, HoldsAll, column_or, table}
use Rattle.plan_frame.specs.Reshaped.{row_numbers}
use Rattle.plan_frame.specs.Values.{Value, text}
use Rattle.plan_scan.specs.Source.{Source}
use Rattle.plan_scan.specs.Sources.{path_name}
use Rattle.plan_scan.specs.Stats.{Stats, columns_of}
use Rattle.plan_value.specs.Shown.{value_of}

-- the frame without rows and columns
abbrev pub no_frame : Frame
no_frame = record { height = 0; columns = [] }

-- a source of a scan: where its rows are, the values of its hive columns, and its table
pub record Part : Type 0 where
  pub source : Source
  pub hive : Stats
  pub rows : Frame

-- sources with their hive values and tables, one for one; without hive columns where no parts are given
abbrev pub parts_of : Option (List Stats) → List Source → List Frame → List Part
parts_of hive [] fs = []
parts_of hive (s ∷ ss) [] = []
parts_of None (s ∷ ss) (f ∷ fs) = record { source = s; hive = []; rows = f } ∷ parts_of None ss fs
parts_of (Some []) (s ∷ ss) (f ∷ fs) = record { source = s; hive = []; rows = f } ∷ parts_of (Some []) ss fs
parts_of (Some (h ∷ hs)) (s ∷ ss) (f ∷ fs) = record { source = s; hive = h; rows = f } ∷ parts_of (Some hs) ss fs

-- the value of the first hive column of a name, if there is one
abbrev pub hive_value : Stats → Name → Option Value
hive_value [] a = None
hive_value (s ∷ ss) a = if bytes_eq a s.field.name then Some (value_of s.value) else hive_value ss a

-- so many times a value, if there is one, else the others
abbrev pub alike_or : Option Value → ℕ → List Value → List Value
alike_or None h vs = vs
alike_or (Some v) h vs = replicate h v

-- the values of a column in the rows of a source: its hive value in each, or else those of its table
abbrev pub own_values : Part → Name → List Value
own_values p a = alike_or (hive_value p.hive a) p.rows.height (column_or p.rows a)

-- the path of a source where the column is the one with the paths
abbrev pub path_value : Option Name → Source → Name → Option Value
path_value None s a = None
path_value (Some b) s a = if bytes_eq a b then Some (text (path_name s)) else None

-- the values of a column in the rows of a source: its path in each where it is the column with the paths
abbrev pub part_values : Option Name → Part → Name → List Value
part_values path p a = alike_or (path_value path p.source a) p.rows.height (own_values p a)

-- the values of a column in the rows of one source after another
abbrev pub values_in_turn : Option Name → List Part → Name → List Value
values_in_turn path [] a = []
values_in_turn path (p ∷ ps) a = part_values path p a ++ values_in_turn path ps a

-- how many rows sources have together
abbrev pub rows_in_turn : List Part → ℕ
rows_in_turn [] = 0
rows_in_turn (p ∷ ps) = p.rows.height + rows_in_turn ps

-- the numbers of so many rows where the column numbers them, else these values
abbrev pub numbers_or : Option RowIndex → ℕ → Name → List Value → List Value
numbers_or None h a vs = vs
numbers_or (Some row) h a vs = if bytes_eq a row.name then row_numbers row.offset h else vs

-- the values of a column of a scan: the numbers of its rows, counted over all sources, or what the sources have in turn
abbrev pub scan_values : FileScanOptions → List Part → Name → List Value
scan_values options ps a = numbers_or options.row_index (rows_in_turn ps) a (values_in_turn options.include_file_paths ps a)

-- the frame of a scan that puts out these names
abbrev pub scan_frame : List Name → FileScanOptions → List Part → Frame
scan_frame names options ps = table (rows_in_turn ps) names (scan_values options ps)

-- a part of a scan fits: it has the hive columns, with values of their types, and its table holds the columns that the reader finds
pub record PartFits (reader hive : Columns) (p : Part) : Type 0 where
  pub columns : columns_of p.hive ≡ hive
  pub typed : are_typed p.hive ≡ true
  pub holds : HoldsAll p.rows reader
