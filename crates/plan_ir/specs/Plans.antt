-- Plans as trees without numbers: what a meaning reads.
use Rattle.std.specs.Prelude.{ℕ, ℤ, Bool, List, Option, option_map}
use Rattle.plan_core.specs.declared.arena.Node.{Node}
use Rattle.plan_core.specs.declared.options.FileScanOptions.{FileScanOptions}
use Rattle.plan_core.specs.declared.options.ProjectionOptions.{ProjectionOptions}
use Rattle.plan_options.specs.declared.distinct.DistinctOptionsIR.{DistinctOptionsIR}
use Rattle.plan_options.specs.declared.group.GroupbyOptions.{GroupbyOptions}
use Rattle.plan_options.specs.declared.sink.SinkType.{SinkType}
use Rattle.plan_options.specs.declared.sort.SortMultipleOptions.{SortMultipleOptions}
use Rattle.plan_options.specs.declared.union.HConcatOptions.{HConcatOptions}
use Rattle.plan_options.specs.declared.union.UnionOptions.{UnionOptions}
use Rattle.plan_core.specs.Columns.{Columns}
use Rattle.plan_tree.specs.Stands.{Trees}
use Rattle.plan_tree.specs.Read.{trees_at}
use Rattle.plan_tree.specs.Rose.{Rose, Roses, map_roses}
use Rattle.plan_expr.specs.declared.aexpr.AExpr.{AExpr}
use Rattle.plan_join.specs.Told.{Told, told_at}
use Rattle.plan_ir.specs.declared.scan.FileInfo.{FileInfo}
use Rattle.plan_scan.specs.declared.file_scan.FileScan.{FileScan}
use Rattle.plan_scan.specs.declared.sources.ScanSources.{ScanSources}
use Rattle.plan_scan.specs.Stats.{Stats}
use Rattle.plan_ir.specs.declared.functions.FunctionIR.{FunctionIR}
use Rattle.plan_ir.specs.declared.ir.IR.{IR}
use Rattle.plan_ir.specs.declared.ir.IR.TheVariants as nodes
use Rattle.plan_expr.specs.Exprs.{Named, named_at, all_named_at}
use Rattle.plan_ir.specs.Parts.{plan_shape}

-- what a plan node is beside its inputs
pub data Op : Type 0 where
  slice : (offset : ℤ) → (len : ℕ) → Op
  filter : (predicate : Named) → Op
  scan : (sources : ScanSources) → (file_info : FileInfo) → (hive_parts : Option (List Stats)) → (predicate : Option Named) → (output_schema : Option Columns) → (scan_type : FileScan) → (file_options : FileScanOptions) → Op
  frame_scan : (df : Option ℕ) → (schema : Columns) → (output_schema : Option Columns) → Op
  simple_projection : (columns : Columns) → Op
  select : (exprs : List Named) → (schema : Columns) → (options : ProjectionOptions) → Op
  hstack : (exprs : List Named) → (schema : Columns) → (options : ProjectionOptions) → Op
  sort : (keys : List Named) → (cut : Option (ℤ × ℕ)) → (options : SortMultipleOptions) → Op
  group_by : (keys aggs : List Named) → (schema : Columns) → (maintain_order : Bool) → (options : GroupbyOptions) → Op
  join : (left_on right_on : List Named) → (schema : Columns) → (told : Told) → Op
  distinct : (options : DistinctOptionsIR) → Op
  map_function : (function : FunctionIR) → Op
  sink : (payload : SinkType) → Op
  union : (options : UnionOptions) → Op
  hconcat : (schema : Columns) → (options : HConcatOptions) → Op
  cache : (id hits : ℕ) → Op
  invalid : Op

-- a plan without numbers
abbrev pub Plan : Type 0
Plan = Rose (Unit {0}) Op

-- what a node is, with the expressions that it reaches
abbrev pub op_at : List AExpr → IR → Op
op_at ex (nodes.Slice input offset len) = slice offset len
op_at ex (nodes.Filter input predicate) = filter (named_at ex predicate)
op_at ex (nodes.Scan sources file_info hive_parts predicate output_schema scan_type file_options) = scan sources file_info hive_parts (option_map (named_at ex) predicate) output_schema scan_type file_options
op_at ex (nodes.DataFrameScan df schema output_schema) = frame_scan df schema output_schema
op_at ex (nodes.SimpleProjection input columns) = simple_projection columns
op_at ex (nodes.Select input expr schema options) = select (all_named_at ex expr) schema options
op_at ex (nodes.HStack input exprs schema options) = hstack (all_named_at ex exprs) schema options
op_at ex (nodes.Sort input by_column cut sort_options) = sort (all_named_at ex by_column) cut sort_options
op_at ex (nodes.GroupBy input keys aggs schema maintain_order options) = group_by (all_named_at ex keys) (all_named_at ex aggs) schema maintain_order options
op_at ex (nodes.Join input_left input_right schema left_on right_on options) = join (all_named_at ex left_on) (all_named_at ex right_on) schema (told_at ex options)
op_at ex (nodes.Distinct input options) = distinct options
op_at ex (nodes.MapFunction input function) = map_function function
op_at ex (nodes.Sink input payload) = sink payload
op_at ex (nodes.Union inputs options) = union options
op_at ex (nodes.HConcat inputs schema options) = hconcat schema options
op_at ex (nodes.Cache input id cache_hits) = cache id cache_hits
op_at ex nodes.Invalid = invalid

-- the plans that trees in an arena are, each node with its number
abbrev pub plans_of : List AExpr → Trees IR → Roses Node Op
plans_of ex t = map_roses (λ n. n) (op_at ex) t

-- the plans that numbers reach, each node with its number
abbrev pub plans_at : List IR → List AExpr → List Node → Roses Node Op
plans_at lp ex ns = plans_of ex (trees_at plan_shape lp ns)

-- the plans without numbers: plans that are equal but for numbers are equal here
abbrev pub bare : {N : Type 0} → Roses N Op → Roses (Unit {0}) Op
bare t = map_roses (λ _. tt) (λ op. op) t
