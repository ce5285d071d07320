-- The sources of a scan, each with its hive columns and its frame.
use Rattle.std.specs.Prelude.{◌≡◌, ℕ, List, [], map, Option, None, Some, option_copied, option_map, slice_get, unwrap_or}
use Rattle.std.specs.Borrow.{Bor}
use Rattle.std.specs.List.{AllByRecursion}
use Rattle.plan_expr.specs.Leaves.{Name}
use Rattle.plan_file_scan.specs.FileFrames.{Part, no_frame, rows_in_turn, values_in_turn}
use Rattle.plan_frame.specs.Frames.{Frame, column_or}
use Rattle.plan_scan.specs.Sources.{source_of}
use Rattle.plan_scan.specs.Stats.{Stats}
use Rattle.plan_table.specs.declared.column.Column.{Column as Typed}
use Rattle.plan_table.specs.declared.table.Table.{Table}
use Rattle.plan_value.specs.Shown.{frame_of, values_of}
use Rattle.plan_file_tables.specs.declared.parts.Part.{Part as Lent}

-- the frame of a table that is lent, if there is one; else the one without rows and columns
abbrev pub frame_found : Option (Bor Table) → Frame
frame_found t = unwrap_or (option_map frame_of (option_copied t)) no_frame

-- the frames of tables that are lent, where there are, in order
abbrev pub frames_found : List (Option (Bor Table)) → List Frame
frames_found ts = map frame_found ts

-- the hive columns of the source at a place; none where no part is given for it
abbrev pub hive_at : Option (List Stats) → ℕ → Stats
hive_at None i = []
hive_at (Some parts) i = unwrap_or (slice_get parts i) []

-- the source that is lent, with what its hive columns and its table are
abbrev pub part_shown : Lent → Part
part_shown p = record { source = source_of p.source; hive = unwrap_or (option_copied p.hive) []; rows = frame_found p.table }

-- sources that are lent, in order
abbrev pub parts_shown : List Lent → List Part
parts_shown ps = map part_shown ps

-- no column has values
abbrev pub AreEmpty : List Typed → Type 0
AreEmpty cs = AllByRecursion (λ (c : Typed). values_of c.values ≡ []) cs

-- a frame has no rows, and under no name values
abbrev pub IsBare : Frame → Type 0
IsBare f = (f.height ≡ 0) × ((a : Name) → column_or f a ≡ [])

-- sources have the same rows and values in turn
abbrev pub GiveSame : (ps qs : List Part) → Type 0
GiveSame ps qs = ((path : Option Name) (a : Name) → values_in_turn path ps a ≡ values_in_turn path qs a) × (rows_in_turn ps ≡ rows_in_turn qs)
