-- What scans read.
use Rattle.std.specs.Prelude.{ℕ, Bool, true, false, List, [], map, filter, Option, unwrap_or}
use Rattle.std.specs.Option.{option_map_or}
use Rattle.plan_core.specs.Columns.{Columns, names_of}
use Rattle.plan_core.specs.Names.{with_names}
use Rattle.plan_core.specs.declared.options.FileScanOptions.{FileScanOptions}
use Rattle.plan_ir.specs.declared.scan.FileInfo.{FileInfo}
use Rattle.plan_files.specs.FileColumns.{hive_columns, plain_columns}
use Rattle.plan_ir.specs.declared.ir.IR.{IR}
use Rattle.plan_scan.specs.Stats.{Stats}
use Rattle.plan_ir.specs.declared.ir.IR.TheVariants.{Slice, Filter, Scan, DataFrameScan, SimpleProjection, Select, HStack, Sort, GroupBy, Join, Distinct, MapFunction, Sink, Union, HConcat, Cache, Invalid}

-- a node that reads from sources
abbrev pub is_scan : IR → Bool
is_scan (Slice input offset len) = false
is_scan (Filter input predicate) = false
is_scan (Scan sources file_info hive_parts predicate output_schema scan_type file_options) = true
is_scan (DataFrameScan df schema output_schema) = true
is_scan (SimpleProjection input columns) = false
is_scan (Select input expr schema options) = false
is_scan (HStack input exprs schema options) = false
is_scan (Sort input by_column slice sort_options) = false
is_scan (GroupBy input keys aggs schema maintain_order options) = false
is_scan (Join input_left input_right schema left_on right_on options) = false
is_scan (Distinct input options) = false
is_scan (MapFunction input function) = false
is_scan (Sink input payload) = false
is_scan (Union inputs options) = false
is_scan (HConcat inputs schema options) = false
is_scan (Cache input id cache_hits) = false
is_scan Invalid = false

-- the names, each once, in the order in which they first come
abbrev pub once : List (List ℕ) → List (List ℕ)
once names = with_names [] names

-- the names that are asked for, each once, or else all that a reader finds but for hive columns
abbrev pub names_read : FileInfo → Option (List Stats) → FileScanOptions → List (List ℕ)
names_read info hive options = option_map_or once options.with_columns (names_of (plain_columns (unwrap_or info.reader_schema []) (hive_columns hive)))

-- the names of what is put out, or else of all that there is
abbrev pub put_out_names : Option Columns → Columns → List (List ℕ)
put_out_names output schema = option_map_or names_of output (names_of schema)

-- the names of the columns that a scan reads from its files or frame; other nodes read nothing
abbrev pub reads_of : IR → List (List ℕ)
reads_of (Slice input offset len) = []
reads_of (Filter input predicate) = []
reads_of (Scan sources file_info hive_parts predicate output_schema scan_type file_options) = names_read file_info hive_parts file_options
reads_of (DataFrameScan df schema output_schema) = put_out_names output_schema schema
reads_of (SimpleProjection input columns) = []
reads_of (Select input expr schema options) = []
reads_of (HStack input exprs schema options) = []
reads_of (Sort input by_column slice sort_options) = []
reads_of (GroupBy input keys aggs schema maintain_order options) = []
reads_of (Join input_left input_right schema left_on right_on options) = []
reads_of (Distinct input options) = []
reads_of (MapFunction input function) = []
reads_of (Sink input payload) = []
reads_of (Union inputs options) = []
reads_of (HConcat inputs schema options) = []
reads_of (Cache input id cache_hits) = []
reads_of Invalid = []

-- what each scan among nodes reads
abbrev pub scan_reads_of : List IR → List (List (List ℕ))
scan_reads_of nodes = map reads_of (filter is_scan nodes)
