-- The parts of nodes and expressions are read again of what is written for them, and the options that no document tells are the default ones.
use Rattle.std.proofs.Common.{◌≡◌, ℕ, ℤ, true, List, Option, None}
use Rattle.plan_core.specs.Columns.{Columns}
use Rattle.plan_core.specs.Options.{default_scan}
use Rattle.plan_core.specs.declared.arena.Node.{Node}
use Rattle.plan_core.specs.declared.options.FileScanOptions.{FileScanOptions}
use Rattle.plan_expr.specs.Aggregates.{agg_input}
use Rattle.plan_expr.specs.Functions.{options_of}
use Rattle.plan_expr.specs.declared.aexpr.AExpr.{AExpr}
use Rattle.plan_expr.specs.declared.aexpr.AExpr.TheVariants as exprs
use Rattle.plan_expr.specs.declared.expr_ir.ExprIR.{ExprIR}
use Rattle.plan_ir.specs.declared.ir.IR.{IR}
use Rattle.plan_ir.specs.declared.ir.IR.TheVariants as nodes
use Rattle.plan_ir.specs.declared.scan.FileInfo.{FileInfo}
use Rattle.plan_join.specs.declared.options.JoinOptions.{JoinOptions}
use Rattle.plan_options.specs.Union.{default_union}
use Rattle.plan_options.specs.declared.sort.SortMultipleOptions.{SortMultipleOptions}
use Rattle.plan_options.specs.declared.union.UnionOptions.{UnionOptions}
use Rattle.plan_scan.specs.Stats.{Stats}
use Rattle.plan_scan.specs.declared.sources.ScanSources.{ScanSources}
use Rattle.plan_doc_parts.specs.Parts.{nullable, number_of, link_of, links_of, integer_of, columns_of, output_of, outputs_of, slice_of}
use Rattle.plan_doc.specs.Exprs.{value_or_null}
use Rattle.plan_doc_scans.specs.Functions.{frame_function_of}
use Rattle.plan_doc_scans.specs.Hive.{hive_parts_of}
use Rattle.plan_doc_nodes.specs.Joins.{kind_options_of}
use Rattle.plan_doc_scans.specs.Scans.{sources_of, row_index_of}
use Rattle.plan_text_pieces.specs.Functions.{frame_function_data}
use Rattle.plan_text_pieces.specs.Hive.{hive_parts_data}
use Rattle.plan_text_pieces.specs.JoinOptions.{kind_options_data}
use Rattle.plan_text_pieces.specs.Values.{number_data, link_data, integer_data, list_data, nullable_data, columns_data, output_data, outputs_data, slice_data, row_index_data, sources_data}
use Rattle.plan_text.specs.Exprs.{literal_data}
use Rattle.plan_round_trip.proofs.Steps.{Again}
use Rattle.plan_round_trip.proofs.Literals.{literal_type}

abbrev pub ToldLink : Node → Type 0
ToldLink n = Again link_of link_data n

abbrev pub ToldLinks : List Node → Type 0
ToldLinks ns = Again links_of (list_data link_data) ns

abbrev pub ToldNumber : ℕ → Type 0
ToldNumber n = Again number_of number_data n

abbrev pub ToldOutputs : List ExprIR → Type 0
ToldOutputs es = Again outputs_of outputs_data es

abbrev pub ToldColumns : Columns → Type 0
ToldColumns cs = Again columns_of columns_data cs

abbrev pub ToldSomeColumns : Option Columns → Type 0
ToldSomeColumns cs = Again (nullable columns_of) (nullable_data columns_data) cs

abbrev pub ToldSlice : Option (ℤ × ℕ) → Type 0
ToldSlice s = Again (nullable slice_of) (nullable_data slice_data) s

-- what a scan reads of its files and puts beside it
pub record ToldReading (options : FileScanOptions) : Type 0 where
  pub slice : ToldSlice options.slice
  pub row : Again (nullable row_index_of) (nullable_data row_index_data) options.row_index
  pub rest : record default_scan { slice = options.slice; with_columns = options.with_columns; row_index = options.row_index; rechunk = options.rechunk; include_file_paths = options.include_file_paths } ≡ options

-- a scan
pub record ToldScan (from : ScanSources) (info : FileInfo) (parts : Option (List Stats)) (condition : Option ExprIR) (out : Option Columns) (options : FileScanOptions) : Type 0 where
  pub sources : Again sources_of sources_data from
  pub schema : ToldColumns info.schema
  pub reader : ToldSomeColumns info.reader_schema
  pub hive : Again (nullable hive_parts_of) (nullable_data hive_parts_data) parts
  pub predicate : Again (nullable output_of) (nullable_data output_data) condition
  pub output : ToldSomeColumns out
  pub reading : ToldReading options

-- what a sort is told, but how many threads it may take and that it may stop early
abbrev pub told_sort : SortMultipleOptions → SortMultipleOptions
told_sort o = record { descending = o.descending; nulls_last = o.nulls_last; multithreaded = true; maintain_order = o.maintain_order; limit = None }

-- what a union is told, but what it knows of its rows
abbrev pub told_union : UnionOptions → UnionOptions
told_union o = record default_union { slice = o.slice; parallel = o.parallel; flattened_by_opt = o.flattened_by_opt; rechunk = o.rechunk; maintain_order = o.maintain_order }

-- a join
pub record ToldJoin (left right : Node) (columns : Columns) (lefts rights : List ExprIR) (options : JoinOptions) : Type 0 where
  pub input_left : ToldLink left
  pub input_right : ToldLink right
  pub schema : ToldColumns columns
  pub left_on : ToldOutputs lefts
  pub right_on : ToldOutputs rights
  pub slice : ToldSlice options.args.slice
  pub kind : Again (nullable kind_options_of) (nullable_data kind_options_data) options.options

-- a node
abbrev pub Told : IR → Type 0
Told (nodes.Slice input offset len) = ToldLink input × Again integer_of integer_data offset × ToldNumber len
Told (nodes.Filter input predicate) = ToldLink input × Again output_of output_data predicate
Told (nodes.Scan from info hive predicate output format options) = ToldScan from info hive predicate output options
Told (nodes.DataFrameScan df schema output) = Again (nullable number_of) (nullable_data number_data) df × ToldColumns schema × ToldSomeColumns output
Told (nodes.SimpleProjection input columns) = ToldLink input × ToldColumns columns
Told (nodes.Select input expr schema options) = ToldLink input × ToldOutputs expr × ToldColumns schema
Told (nodes.HStack input exprs schema options) = ToldLink input × ToldOutputs exprs × ToldColumns schema
Told (nodes.Sort input keys slice options) = ToldLink input × ToldOutputs keys × ToldSlice slice × (told_sort options ≡ options)
Told (nodes.GroupBy input keys aggs schema maintain_order options) = ToldLink input × ToldOutputs keys × ToldOutputs aggs × ToldColumns schema × ToldSlice options.slice
Told (nodes.Join left right schema left_on right_on options) = ToldJoin left right schema left_on right_on options
Told (nodes.Distinct input options) = ToldLink input × ToldSlice options.slice
Told (nodes.MapFunction input function) = ToldLink input × Again frame_function_of frame_function_data function
Told (nodes.Sink input payload) = ToldLink input
Told (nodes.Union inputs options) = ToldLinks inputs × ToldSlice options.slice × (told_union options ≡ options)
Told (nodes.HConcat inputs schema options) = ToldLinks inputs × ToldColumns schema
Told (nodes.Cache input id hits) = ToldLink input × ToldNumber id × ToldNumber hits
Told nodes.Invalid = Unit {0}

-- an expression
abbrev pub ToldExpr : AExpr → Type 0
ToldExpr (exprs.Column s) = Unit {0}
ToldExpr (exprs.Literal v) = Again (value_or_null (literal_type v)) literal_data v
ToldExpr (exprs.Alias input s) = ToldLink input
ToldExpr (exprs.BinaryExpr left op right) = ToldLink left × ToldLink right
ToldExpr (exprs.Ternary predicate truthy falsy) = ToldLink predicate × ToldLink truthy × ToldLink falsy
ToldExpr (exprs.Agg agg) = ToldLink (agg_input agg)
ToldExpr (exprs.Function input function options) = ToldLinks input × (options_of function ≡ options)
ToldExpr (exprs.Window function partition_by) = ToldLink function × ToldLinks partition_by
ToldExpr exprs.Len = Unit {0}
