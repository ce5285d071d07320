-- Contents: what the sources of scans hold, and when they fit a plan.
use Rattle.std.specs.Prelude.{◌≡◌, ℕ, ◌==◌, Bool, false, List, [], map, Option, Some, None, unwrap_or}
use Rattle.std.specs.List.{AllByRecursion}
use Rattle.std.specs.Map.{lookup}
use Rattle.std.specs.Str.{bytes_eq}
use Rattle.plan_core.specs.Columns.{Columns}
use Rattle.plan_tree.specs.Rose.{Roses, rose, no_roses, more}
use Rattle.plan_scan.specs.declared.sources.ScanSources.{ScanSources}
use Rattle.plan_scan.specs.Source.{Source as ScanSource, file, buffer as buffers}
use Rattle.plan_scan.specs.Sources.{sources_of as scan_sources}
use Rattle.plan_ir.specs.declared.functions.FunctionIR.{FunctionIR}
use Rattle.plan_ir.specs.declared.functions.FunctionIR.TheVariants.{Rename, RowIndex, Unpivot, Explode, FastCount}
use Rattle.plan_ir.specs.Plans.{Op, slice, filter, scan, frame_scan, simple_projection, select, hstack, sort, group_by, join, distinct, map_function, sink, union, hconcat, cache, invalid, Plan}
use Rattle.plan_expr.specs.Leaves.{Name}
use Rattle.plan_file_scan.specs.FileFrames.{no_frame}
use Rattle.plan_frame.specs.Frames.{Frame, IsFrame, HoldsAll}
use Rattle.plan_meaning.specs.Typing.{reader_columns}

-- where a frame comes from: a path, a buffer by its number, or a frame that was handed in, by its number
pub data Source : Type 0 where
  path : Name → Source
  buffer : ℕ → Source
  frame : ℕ → Source

-- two sources of one kind, with the same path or number
abbrev pub same_source : Source → Source → Bool
same_source (path a) (path b) = bytes_eq a b
same_source (buffer i) (buffer j) = i == j
same_source (frame i) (frame j) = i == j
same_source _ _ = false

-- what sources hold: a source has the frame of the first pair that names it
abbrev pub Contents : Type 0
Contents = List (Source × Frame)

-- the frame of a source, if it has one
abbrev pub frame_at : Contents → Source → Option Frame
frame_at c s = lookup (same_source s) c

-- the frame of a source, the empty one where it has none
abbrev pub frame_or : Contents → Source → Frame
frame_or c s = unwrap_or (frame_at c s) no_frame

-- where a source of a scan is
abbrev pub place_of : ScanSource → Source
place_of (file a) = path a
place_of (buffers i) = buffer i

-- where the sources of a scan are, in order
abbrev pub sources_of : ScanSources → List Source
sources_of sources = map place_of (scan_sources sources)

-- the frames of a scan's sources, in order
abbrev pub frames_of : Contents → ScanSources → List Frame
frames_of c sources = map (frame_or c) (sources_of sources)

-- the frame that is handed in under a number; without a number the one without rows and columns
abbrev pub handed_in : Contents → Option ℕ → Frame
handed_in c None = no_frame
handed_in c (Some i) = frame_or c (frame i)

-- a source has a well-formed frame that holds these columns
pub record HasFrame (c : Contents) (file : Columns) (s : Source) : Type 0 where
  pub given : Frame
  pub found : frame_at c s ≡ Some given
  pub formed : IsFrame given
  pub holds : HoldsAll given file

-- under a number there is a well-formed frame that holds these columns
abbrev pub HasHandedIn : Contents → Columns → Option ℕ → Type 0
HasHandedIn c schema None = Unit {0}
HasHandedIn c schema (Some i) = HasFrame c schema (frame i)

-- contents fit a function: each source of a count of the rows of files has a frame
abbrev pub FunctionFits : Contents → FunctionIR → Type 0
FunctionFits c (Rename existing new swapping) = Unit {0}
FunctionFits c (RowIndex name offset) = Unit {0}
FunctionFits c (Unpivot args) = Unit {0}
FunctionFits c (Explode columns) = Unit {0}
FunctionFits c (FastCount sources scan_type alias) = AllByRecursion (HasFrame c []) (sources_of sources)

-- contents fit a node: each source of a scan has a frame with the columns that its reader finds, a frame that is handed in holds its columns, and each source whose rows are counted has a frame
abbrev pub FitsAt : Contents → Op → Type 0
FitsAt c (slice offset len) = Unit {0}
FitsAt c (filter predicate) = Unit {0}
FitsAt c (scan sources info hive predicate output kind options) = AllByRecursion (HasFrame c (reader_columns info)) (sources_of sources)
FitsAt c (frame_scan df schema output) = HasHandedIn c schema df
FitsAt c (simple_projection columns) = Unit {0}
FitsAt c (select exprs schema options) = Unit {0}
FitsAt c (hstack exprs schema options) = Unit {0}
FitsAt c (sort keys part options) = Unit {0}
FitsAt c (group_by keys aggs schema ordered options) = Unit {0}
FitsAt c (join left_on right_on schema told) = Unit {0}
FitsAt c (distinct options) = Unit {0}
FitsAt c (map_function function) = FunctionFits c function
FitsAt c (sink payload) = Unit {0}
FitsAt c (union options) = Unit {0}
FitsAt c (hconcat schema options) = Unit {0}
FitsAt c (cache id hits) = Unit {0}
FitsAt c invalid = Unit {0}

-- contents fit each node of each plan
abbrev pub FitsAll : Contents → Roses (Unit {0}) Op → Type 0
FitsAll c no_roses = Unit {0}
FitsAll c (more (rose n op ts) rest) = FitsAt c op × FitsAll c ts × FitsAll c rest

-- contents fit each node of a plan
abbrev pub Fits : Contents → Plan → Type 0
Fits c (rose n op ts) = FitsAt c op × FitsAll c ts
