-- The JSON values of nodes: members in the byte order of their keys.
use Rattle.std.specs.Prelude.{ℕ, ℤ, Bool, List, Option, codes}
use Rattle.serde_json.specs.Data.{Data, boolean, string, object, no_members, member}
use Rattle.plan_core.specs.Columns.{Columns}
use Rattle.plan_core.specs.declared.arena.Node.{Node}
use Rattle.plan_core.specs.declared.options.FileScanOptions.{FileScanOptions}
use Rattle.plan_core.specs.declared.options.ProjectionOptions.{ProjectionOptions}
use Rattle.plan_expr.specs.declared.expr_ir.ExprIR.{ExprIR}
use Rattle.plan_ir.specs.declared.functions.FunctionIR.{FunctionIR}
use Rattle.plan_ir.specs.declared.ir.IR.{IR}
use Rattle.plan_ir.specs.declared.ir.IR.TheVariants as nodes
use Rattle.plan_ir.specs.declared.scan.FileInfo.{FileInfo}
use Rattle.plan_scan.specs.declared.file_scan.FileScan.{FileScan}
use Rattle.plan_scan.specs.declared.sources.ScanSources.{ScanSources}
use Rattle.plan_scan.specs.Sources.{kind_name}
use Rattle.plan_scan.specs.Stats.{Stats}
use Rattle.plan_join.specs.declared.options.JoinOptions.{JoinOptions}
use Rattle.plan_options.specs.declared.distinct.DistinctOptionsIR.{DistinctOptionsIR}
use Rattle.plan_options.specs.declared.group.GroupbyOptions.{GroupbyOptions}
use Rattle.plan_options.specs.declared.sort.SortMultipleOptions.{SortMultipleOptions}
use Rattle.plan_options.specs.declared.union.HConcatOptions.{HConcatOptions}
use Rattle.plan_options.specs.declared.union.UnionOptions.{UnionOptions}
use Rattle.plan_text_pieces.specs.Kinds.{keep_text, how_text, coalesce_text, order_text}
use Rattle.plan_text_pieces.specs.Values.{link_data, integer_data, number_data, list_data, nullable_data, two_data, columns_data, names_data, truths_data, output_data, outputs_data, options_data, slice_data, row_index_data, sources_data}
use Rattle.plan_text_pieces.specs.JoinOptions.{kind_options_data}
use Rattle.plan_text_pieces.specs.Functions.{frame_function_data}
use Rattle.plan_text_pieces.specs.Hive.{hive_parts_data}

-- a scan
unfoldable pub scan_data : ScanSources → FileInfo → Option (List Stats) → Option ExprIR → Option Columns → FileScan → FileScanOptions → Data
scan_data from info hive predicate output format options = object (
    member (codes "columns") (nullable_data names_data options.with_columns) (
    member (codes "hive") (nullable_data hive_parts_data hive) (
    member (codes "kind") (string (kind_name format)) (
    member (codes "op") (string (codes "Scan")) (
    member (codes "output") (nullable_data columns_data output) (
    member (codes "path_column") (nullable_data string options.include_file_paths) (
    member (codes "predicate") (nullable_data output_data predicate) (
    member (codes "reader") (nullable_data columns_data info.reader_schema) (
    member (codes "rechunk") (boolean options.rechunk) (
    member (codes "row_index") (nullable_data row_index_data options.row_index) (
    member (codes "schema") (columns_data info.schema) (
    member (codes "slice") (nullable_data slice_data options.slice) (
    member (codes "sources") (sources_data from) no_members)))))))))))))

-- some rows of the input, one after another
unfoldable pub slice_node_data : Node → ℤ → ℕ → Data
slice_node_data input offset len = object (
    member (codes "input") (link_data input) (
    member (codes "len") (number_data len) (
    member (codes "offset") (integer_data offset) (
    member (codes "op") (string (codes "Slice")) no_members))))

-- the columns of a frame that is handed in
unfoldable pub frame_scan_data : Option ℕ → Columns → Option Columns → Data
frame_scan_data df schema output = object (
    member (codes "frame") (nullable_data number_data df) (
    member (codes "op") (string (codes "DataFrameScan")) (
    member (codes "output") (nullable_data columns_data output) (
    member (codes "schema") (columns_data schema) no_members))))

-- a node of this name that makes a column for each expression
unfoldable pub made_data : List ℕ → Node → List ExprIR → Columns → ProjectionOptions → Data
made_data op input exprs schema options = object (
    member (codes "exprs") (outputs_data exprs) (
    member (codes "input") (link_data input) (
    member (codes "op") (string op) (
    member (codes "options") (options_data options) (
    member (codes "schema") (columns_data schema) no_members)))))

-- the rows of the input in the order of some keys
unfoldable pub sort_data : Node → List ExprIR → Option (ℤ × ℕ) → SortMultipleOptions → Data
sort_data input keys slice options = object (
    member (codes "by") (outputs_data keys) (
    member (codes "descending") (truths_data options.descending) (
    member (codes "input") (link_data input) (
    member (codes "maintain_order") (boolean options.maintain_order) (
    member (codes "nulls_last") (truths_data options.nulls_last) (
    member (codes "op") (string (codes "Sort")) (
    member (codes "slice") (nullable_data slice_data slice) no_members)))))))

-- a row for each group of rows that have the same keys
unfoldable pub group_by_data : Node → List ExprIR → List ExprIR → Columns → Bool → GroupbyOptions → Data
group_by_data input keys aggs schema maintain_order options = object (
    member (codes "aggs") (outputs_data aggs) (
    member (codes "input") (link_data input) (
    member (codes "keys") (outputs_data keys) (
    member (codes "maintain_order") (boolean maintain_order) (
    member (codes "op") (string (codes "GroupBy")) (
    member (codes "schema") (columns_data schema) (
    member (codes "slice") (nullable_data slice_data options.slice) no_members)))))))

-- rows of two inputs that match, side by side
unfoldable pub join_data : Node → Node → Columns → List ExprIR → List ExprIR → JoinOptions → Data
join_data left right schema left_on right_on options = object (
    member (codes "coalesce") (string (coalesce_text options.args.coalesce)) (
    member (codes "how") (string (how_text options.args.how)) (
    member (codes "join_nulls") (boolean options.args.join_nulls) (
    member (codes "left") (link_data left) (
    member (codes "left_on") (outputs_data left_on) (
    member (codes "maintain_order") (string (order_text options.args.maintain_order)) (
    member (codes "op") (string (codes "Join")) (
    member (codes "options") (nullable_data kind_options_data options.options) (
    member (codes "parallel") (two_data (boolean options.allow_parallel) (boolean options.force_parallel)) (
    member (codes "right") (link_data right) (
    member (codes "right_on") (outputs_data right_on) (
    member (codes "schema") (columns_data schema) (
    member (codes "slice") (nullable_data slice_data options.args.slice) (
    member (codes "suffix") (nullable_data string options.args.suffix) no_members))))))))))))))

-- of the rows that are the same in some columns one, or those that are alone
unfoldable pub distinct_data : Node → DistinctOptionsIR → Data
distinct_data input options = object (
    member (codes "input") (link_data input) (
    member (codes "keep") (string (keep_text options.keep_strategy)) (
    member (codes "maintain_order") (boolean options.maintain_order) (
    member (codes "op") (string (codes "Distinct")) (
    member (codes "slice") (nullable_data slice_data options.slice) (
    member (codes "subset") (nullable_data names_data options.subset) no_members))))))

-- what a function makes of the whole input
unfoldable pub map_function_data : Node → FunctionIR → Data
map_function_data input function = object (
    member (codes "function") (frame_function_data function) (
    member (codes "input") (link_data input) (
    member (codes "op") (string (codes "MapFunction")) no_members)))

-- the rows of the inputs, those of one after those of another
unfoldable pub union_data : List Node → UnionOptions → Data
union_data inputs options = object (
    member (codes "flattened") (boolean options.flattened_by_opt) (
    member (codes "inputs") (list_data link_data inputs) (
    member (codes "maintain_order") (boolean options.maintain_order) (
    member (codes "op") (string (codes "Union")) (
    member (codes "parallel") (boolean options.parallel) (
    member (codes "rechunk") (boolean options.rechunk) (
    member (codes "slice") (nullable_data slice_data options.slice) no_members)))))))

-- the columns of the inputs side by side
unfoldable pub hconcat_data : List Node → Columns → HConcatOptions → Data
hconcat_data inputs schema options = object (
    member (codes "inputs") (list_data link_data inputs) (
    member (codes "op") (string (codes "HConcat")) (
    member (codes "parallel") (boolean options.parallel) (
    member (codes "schema") (columns_data schema) no_members))))

-- the input, whose rows are kept for all caches of one number
unfoldable pub cache_data : Node → ℕ → ℕ → Data
cache_data input id hits = object (
    member (codes "hits") (number_data hits) (
    member (codes "id") (number_data id) (
    member (codes "input") (link_data input) (
    member (codes "op") (string (codes "Cache")) no_members))))

-- a node
unfoldable pub node_data : IR → Data
node_data (nodes.Slice input offset len) = slice_node_data input offset len
node_data (nodes.Filter input predicate) = object (member (codes "input") (link_data input) (member (codes "op") (string (codes "Filter")) (member (codes "predicate") (output_data predicate) no_members)))
node_data (nodes.Scan from info hive predicate output format options) = scan_data from info hive predicate output format options
node_data (nodes.DataFrameScan df schema output) = frame_scan_data df schema output
node_data (nodes.SimpleProjection input columns) = object (member (codes "columns") (columns_data columns) (member (codes "input") (link_data input) (member (codes "op") (string (codes "SimpleProjection")) no_members)))
node_data (nodes.Select input expr schema options) = made_data (codes "Select") input expr schema options
node_data (nodes.HStack input exprs schema options) = made_data (codes "HStack") input exprs schema options
node_data (nodes.Sort input keys slice options) = sort_data input keys slice options
node_data (nodes.GroupBy input keys aggs schema maintain_order options) = group_by_data input keys aggs schema maintain_order options
node_data (nodes.Join left right schema left_on right_on options) = join_data left right schema left_on right_on options
node_data (nodes.Distinct input options) = distinct_data input options
node_data (nodes.MapFunction input function) = map_function_data input function
node_data (nodes.Sink input payload) = object (member (codes "input") (link_data input) (member (codes "op") (string (codes "Sink")) no_members))
node_data (nodes.Union inputs options) = union_data inputs options
node_data (nodes.HConcat inputs schema options) = hconcat_data inputs schema options
node_data (nodes.Cache input id hits) = cache_data input id hits
node_data nodes.Invalid = object (member (codes "op") (string (codes "Invalid")) no_members)
