-- What is written of a plan has canonical numbers.
use Rattle.std.proofs.Common.{◌≡◌, ℕ, ℤ, pos, negsuc, Bool, List, [], ◌∷◌, true, Option, Some, None, refl}
use Rattle.serde_json.specs.Data.{Data, boolean, string}
use Rattle.plan_core.specs.Columns.{Columns}
use Rattle.plan_core.specs.declared.arena.Node.{Node}
use Rattle.plan_core.specs.declared.options.FileScanOptions.{FileScanOptions}
use Rattle.plan_core.specs.declared.options.ProjectionOptions.{ProjectionOptions}
use Rattle.plan_expr.specs.declared.aexpr.AExpr.{AExpr}
use Rattle.plan_expr.specs.declared.aexpr.AExpr.TheVariants as exprs
use Rattle.plan_expr.specs.declared.expr_ir.ExprIR.{ExprIR}
use Rattle.plan_expr.specs.declared.literal.LiteralValue.{LiteralValue}
use Rattle.plan_expr.specs.declared.literal.LiteralValue.TheVariants as literals
use Rattle.plan_ir.specs.declared.functions.FunctionIR.{FunctionIR}
use Rattle.plan_ir.specs.declared.functions.FunctionIR.TheVariants as functions
use Rattle.plan_ir.specs.declared.functions.UnpivotArgsIR.{UnpivotArgsIR}
use Rattle.plan_ir.specs.declared.ir.IR.{IR}
use Rattle.plan_ir.specs.declared.ir.IR.TheVariants as nodes
use Rattle.plan_ir.specs.declared.scan.FileInfo.{FileInfo}
use Rattle.plan_scan.specs.declared.file_scan.FileScan.{FileScan}
use Rattle.plan_scan.specs.declared.sources.ScanSources.{ScanSources}
use Rattle.plan_scan.specs.declared.sources.ScanSources.TheVariants as sources
use Rattle.plan_scan.specs.Stats.{Stats}
use Rattle.plan_scan.specs.declared.stats.ColumnStats.{ColumnStats}
use Rattle.plan_join.specs.declared.options.JoinOptions.{JoinOptions}
use Rattle.plan_join.specs.declared.options.JoinTypeOptionsIR.{JoinTypeOptionsIR}
use Rattle.plan_join.specs.declared.options.JoinTypeOptionsIR.TheVariants as told
use Rattle.plan_options.specs.declared.distinct.DistinctOptionsIR.{DistinctOptionsIR}
use Rattle.plan_options.specs.declared.group.GroupbyOptions.{GroupbyOptions}
use Rattle.plan_options.specs.declared.join.IEJoinOptions.{IEJoinOptions}
use Rattle.plan_options.specs.declared.join.InequalityOperator.{InequalityOperator}
use Rattle.plan_options.specs.declared.sort.SortMultipleOptions.{SortMultipleOptions}
use Rattle.plan_options.specs.declared.union.HConcatOptions.{HConcatOptions}
use Rattle.plan_options.specs.declared.union.UnionOptions.{UnionOptions}
use Rattle.plan_table.specs.declared.value.AnyValue.{AnyValue}
use Rattle.plan_table.specs.declared.value.AnyValue.TheVariants as values
use Rattle.plan_table.specs.declared.value.PlainValue.{PlainValue}
use Rattle.plan_table.specs.declared.value.PlainValue.TheVariants as singles
use Rattle.plan_text_pieces.specs.Cells.{single_data, value_data}
use Rattle.plan_text_pieces.specs.Hive.{hive_column_data, hive_part_data, hive_parts_data}
use Rattle.plan_text_pieces.specs.Values.{link_data, integer_data, number_data, list_data, nullable_data, field_data, columns_data, names_data, truths_data, output_data, outputs_data, options_data, slice_data, row_index_data, sources_data}
use Rattle.plan_text_pieces.specs.JoinOptions.{second_items, inequalities_data, kind_options_data}
use Rattle.plan_text_pieces.specs.Functions.{rename_data, numbering_data, unpivot_data, explode_data, count_data, frame_function_data}
use Rattle.plan_text.specs.Exprs.{literal_data, expr_data}
use Rattle.plan_text.specs.Nodes.{slice_node_data, scan_data, frame_scan_data, made_data, sort_data, group_by_data, join_data, distinct_data, map_function_data, union_data, hconcat_data, cache_data, node_data}
use Rattle.plan_round_trip.specs.Canonical.{are_canonical}
use Rattle.plan_round_trip.proofs.Lists.{IsCanonical}

integer_canonical : (z : ℤ) → IsCanonical (integer_data z)
integer_canonical (pos n) = refl
integer_canonical (negsuc n) = refl

list_canonical : {A : Type 0} (f : A → Data) (xs : List A) → ((x : A) → IsCanonical (f x)) → IsCanonical (list_data f xs)
unfolding list_data
list_canonical f [] each = refl
list_canonical f (x ∷ xs) each = rw (each x, list_canonical f xs each) refl

nullable_canonical : {A : Type 0} (f : A → Data) (o : Option A) → ((x : A) → IsCanonical (f x)) → IsCanonical (nullable_data f o)
nullable_canonical f None each = refl
nullable_canonical f (Some x) each = each x

output_canonical : (e : ExprIR) → IsCanonical (output_data e)
unfolding output_data
output_canonical e = refl

outputs_canonical : (es : List ExprIR) → IsCanonical (outputs_data es)
outputs_canonical es = list_canonical output_data es output_canonical

options_canonical : (o : ProjectionOptions) → IsCanonical (options_data o)
unfolding options_data
options_canonical o = refl

names_canonical : (ns : List (List ℕ)) → IsCanonical (names_data ns)
names_canonical ns = list_canonical string ns (λ n. refl)

truths_canonical : (bs : List Bool) → IsCanonical (truths_data bs)
truths_canonical bs = list_canonical boolean bs (λ b. refl)

columns_canonical : (cs : Columns) → IsCanonical (columns_data cs)
columns_canonical cs = list_canonical field_data cs (λ f. refl)

sources_canonical : (s : ScanSources) → IsCanonical (sources_data s)
sources_canonical (sources.Paths ps) = rw (names_canonical ps) refl
sources_canonical (sources.Buffers ns) = rw (list_canonical number_data ns (λ n. refl)) refl

single_canonical : (v : PlainValue) → IsCanonical (single_data v)
single_canonical singles.Null = refl
single_canonical (singles.Int64 z) = integer_canonical z
single_canonical (singles.String s) = refl
single_canonical (singles.Boolean b) = refl

value_canonical : (v : AnyValue) → IsCanonical (value_data v)
value_canonical values.Null = refl
value_canonical (values.Int64 z) = integer_canonical z
value_canonical (values.String s) = refl
value_canonical (values.Boolean b) = refl
value_canonical (values.List vs) = list_canonical single_data vs single_canonical

hive_column_canonical : (s : ColumnStats) → IsCanonical (hive_column_data s)
hive_column_canonical s = rw (value_canonical s.value) refl

hive_part_canonical : (ss : Stats) → IsCanonical (hive_part_data ss)
hive_part_canonical ss = list_canonical hive_column_data ss hive_column_canonical

hive_parts_canonical : (parts : List Stats) → IsCanonical (hive_parts_data parts)
hive_parts_canonical parts = list_canonical hive_part_data parts hive_part_canonical

slice_canonical : (s : ℤ × ℕ) → IsCanonical (slice_data s)
slice_canonical s = rw (integer_canonical s.0) refl

literal_canonical : (v : LiteralValue) → IsCanonical (literal_data v)
literal_canonical (literals.Null t) = refl
literal_canonical (literals.Int64 z) = integer_canonical z
literal_canonical (literals.String s) = refl
literal_canonical (literals.Boolean b) = refl

links_canonical : (ns : List Node) → IsCanonical (list_data link_data ns)
links_canonical ns = list_canonical link_data ns (λ n. refl)

pub expr_canonical : (e : AExpr) → IsCanonical (expr_data e)
unfolding expr_data
expr_canonical (exprs.Column s) = refl
expr_canonical (exprs.Literal v) = rw (literal_canonical v) refl
expr_canonical (exprs.Alias input s) = refl
expr_canonical (exprs.BinaryExpr left op right) = refl
expr_canonical (exprs.Ternary predicate truthy falsy) = refl
expr_canonical (exprs.Agg agg) = refl
expr_canonical (exprs.Function input function options) = rw (links_canonical input) refl
expr_canonical (exprs.Window function partition_by) = rw (links_canonical partition_by) refl
expr_canonical exprs.Len = refl

slice_node_canonical : (input : Node) (offset : ℤ) (len : ℕ) → IsCanonical (slice_node_data input offset len)
unfolding slice_node_data
slice_node_canonical input offset len = rw (integer_canonical offset) refl

scan_canonical : (from : ScanSources) (info : FileInfo) (hive : Option (List Stats)) (predicate : Option ExprIR) (output : Option Columns) (format : FileScan) (options : FileScanOptions) → IsCanonical (scan_data from info hive predicate output format options)
unfolding scan_data
scan_canonical from info hive predicate output format options =
    rw (
      nullable_canonical names_data options.with_columns names_canonical,
      nullable_canonical hive_parts_data hive hive_parts_canonical,
      nullable_canonical columns_data output columns_canonical,
      nullable_canonical string options.include_file_paths (λ n. refl),
      nullable_canonical output_data predicate output_canonical,
      nullable_canonical columns_data info.reader_schema columns_canonical,
      nullable_canonical row_index_data options.row_index (λ r. refl),
      columns_canonical info.schema,
      nullable_canonical slice_data options.slice slice_canonical,
      sources_canonical from,
    ) refl

frame_scan_canonical : (df : Option ℕ) (schema : Columns) (output : Option Columns) → IsCanonical (frame_scan_data df schema output)
unfolding frame_scan_data
frame_scan_canonical df schema output = rw (nullable_canonical number_data df (λ n. refl), nullable_canonical columns_data output columns_canonical, columns_canonical schema) refl

made_canonical : (op : List ℕ) (input : Node) (exprs : List ExprIR) (schema : Columns) (options : ProjectionOptions) → IsCanonical (made_data op input exprs schema options)
unfolding made_data
made_canonical op input exprs schema options = rw (outputs_canonical exprs, options_canonical options, columns_canonical schema) refl

sort_canonical : (input : Node) (keys : List ExprIR) (slice : Option (ℤ × ℕ)) (options : SortMultipleOptions) → IsCanonical (sort_data input keys slice options)
unfolding sort_data
sort_canonical input keys slice options =
    rw (outputs_canonical keys, truths_canonical options.descending, truths_canonical options.nulls_last, nullable_canonical slice_data slice slice_canonical) refl

group_by_canonical : (input : Node) (keys aggs : List ExprIR) (schema : Columns) (maintain_order : Bool) (options : GroupbyOptions) → IsCanonical (group_by_data input keys aggs schema maintain_order options)
unfolding group_by_data
group_by_canonical input keys aggs schema maintain_order options =
    rw (outputs_canonical aggs, outputs_canonical keys, columns_canonical schema, nullable_canonical slice_data options.slice slice_canonical) refl

second_canonical : (o : Option InequalityOperator) → are_canonical (second_items o) ≡ true
second_canonical None = refl
second_canonical (Some op) = refl

inequalities_canonical : (o : IEJoinOptions) → IsCanonical (inequalities_data o)
unfolding inequalities_data
inequalities_canonical o = second_canonical o.operator2

pub kind_options_canonical : (k : JoinTypeOptionsIR) → IsCanonical (kind_options_data k)
unfolding kind_options_data
kind_options_canonical (told.IEJoin o) = rw (inequalities_canonical o) refl
kind_options_canonical (told.Cross predicate) = rw (output_canonical predicate) refl

join_canonical : (left right : Node) (schema : Columns) (left_on right_on : List ExprIR) (options : JoinOptions) → IsCanonical (join_data left right schema left_on right_on options)
unfolding join_data
join_canonical left right schema left_on right_on options =
    rw (
      outputs_canonical left_on,
      nullable_canonical kind_options_data options.options kind_options_canonical,
      outputs_canonical right_on,
      columns_canonical schema,
      nullable_canonical slice_data options.args.slice slice_canonical,
      nullable_canonical string options.args.suffix (λ n. refl),
    ) refl

distinct_canonical : (input : Node) (options : DistinctOptionsIR) → IsCanonical (distinct_data input options)
unfolding distinct_data
distinct_canonical input options = rw (nullable_canonical slice_data options.slice slice_canonical, nullable_canonical names_data options.subset names_canonical) refl

rename_canonical : (existing new : List (List ℕ)) (swapping : Bool) → IsCanonical (rename_data existing new swapping)
unfolding rename_data
rename_canonical existing new swapping = rw (names_canonical existing, names_canonical new) refl

numbering_canonical : (name : List ℕ) (offset : Option ℕ) → IsCanonical (numbering_data name offset)
unfolding numbering_data
numbering_canonical name offset = rw (nullable_canonical number_data offset (λ n. refl)) refl

unpivot_canonical : (args : UnpivotArgsIR) → IsCanonical (unpivot_data args)
unfolding unpivot_data
unpivot_canonical args = rw (names_canonical args.index, names_canonical args.on, nullable_canonical string args.value_name (λ n. refl), nullable_canonical string args.variable_name (λ n. refl)) refl

explode_canonical : (columns : List (List ℕ)) → IsCanonical (explode_data columns)
unfolding explode_data
explode_canonical columns = rw (names_canonical columns) refl

count_canonical : (from : ScanSources) (format : FileScan) (alias : Option (List ℕ)) → IsCanonical (count_data from format alias)
unfolding count_data
count_canonical from format alias = rw (nullable_canonical string alias (λ n. refl), sources_canonical from) refl

frame_function_canonical : (f : FunctionIR) → IsCanonical (frame_function_data f)
unfolding frame_function_data
frame_function_canonical (functions.Rename existing new swapping) = rw (rename_canonical existing new swapping) refl
frame_function_canonical (functions.RowIndex name offset) = rw (numbering_canonical name offset) refl
frame_function_canonical (functions.Unpivot args) = rw (unpivot_canonical args) refl
frame_function_canonical (functions.Explode columns) = rw (explode_canonical columns) refl
frame_function_canonical (functions.FastCount from format alias) = rw (count_canonical from format alias) refl

map_function_canonical : (input : Node) (function : FunctionIR) → IsCanonical (map_function_data input function)
unfolding map_function_data
map_function_canonical input function = rw (frame_function_canonical function) refl

union_canonical : (inputs : List Node) (options : UnionOptions) → IsCanonical (union_data inputs options)
unfolding union_data
union_canonical inputs options = rw (links_canonical inputs, nullable_canonical slice_data options.slice slice_canonical) refl

hconcat_canonical : (inputs : List Node) (schema : Columns) (options : HConcatOptions) → IsCanonical (hconcat_data inputs schema options)
unfolding hconcat_data
hconcat_canonical inputs schema options = rw (links_canonical inputs, columns_canonical schema) refl

cache_canonical : (input : Node) (id hits : ℕ) → IsCanonical (cache_data input id hits)
unfolding cache_data
cache_canonical input id hits = refl

pub node_canonical : (n : IR) → IsCanonical (node_data n)
unfolding node_data
node_canonical (nodes.Slice input offset len) = slice_node_canonical input offset len
node_canonical (nodes.Filter input predicate) = rw (output_canonical predicate) refl
node_canonical (nodes.Scan from info hive predicate output format options) = scan_canonical from info hive predicate output format options
node_canonical (nodes.DataFrameScan df schema output) = frame_scan_canonical df schema output
node_canonical (nodes.SimpleProjection input columns) = rw (columns_canonical columns) refl
node_canonical (nodes.Select input expr schema options) = made_canonical _ input expr schema options
node_canonical (nodes.HStack input exprs schema options) = made_canonical _ input exprs schema options
node_canonical (nodes.Sort input keys slice options) = sort_canonical input keys slice options
node_canonical (nodes.GroupBy input keys aggs schema maintain_order options) = group_by_canonical input keys aggs schema maintain_order options
node_canonical (nodes.Join left right schema left_on right_on options) = join_canonical left right schema left_on right_on options
node_canonical (nodes.Distinct input options) = distinct_canonical input options
node_canonical (nodes.MapFunction input function) = map_function_canonical input function
node_canonical (nodes.Sink input payload) = refl
node_canonical (nodes.Union inputs options) = union_canonical inputs options
node_canonical (nodes.HConcat inputs schema options) = hconcat_canonical inputs schema options
node_canonical (nodes.Cache input id hits) = cache_canonical input id hits
node_canonical nodes.Invalid = refl
