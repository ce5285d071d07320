-- No plan, listing or error has a float, so its text is known.
use Rattle.std.proofs.Common.{◌≡◌, ℕ, ℤ, pos, negsuc, Bool, List, [], ◌∷◌, false, Option, Some, None, refl}
use Rattle.serde_json.specs.Data.{Data, boolean, string}
use Rattle.serde_json.specs.Written.{has_float, items_have_float}
use Rattle.plan_core.specs.Columns.{Columns}
use Rattle.plan_core.specs.declared.arena.Node.{Node}
use Rattle.plan_core.specs.declared.error.PolarsError.{PolarsError}
use Rattle.plan_core.specs.declared.options.FileScanOptions.{FileScanOptions}
use Rattle.plan_core.specs.declared.options.ProjectionOptions.{ProjectionOptions}
use Rattle.plan_expr.specs.declared.aexpr.AExpr.{AExpr}
use Rattle.plan_expr.specs.declared.aexpr.AExpr.TheVariants as exprs
use Rattle.plan_expr.specs.declared.expr_ir.ExprIR.{ExprIR}
use Rattle.plan_expr.specs.declared.literal.LiteralValue.{LiteralValue}
use Rattle.plan_expr.specs.declared.literal.LiteralValue.TheVariants as literals
use Rattle.plan_ir.specs.declared.functions.FunctionIR.{FunctionIR}
use Rattle.plan_ir.specs.declared.functions.FunctionIR.TheVariants as functions
use Rattle.plan_ir.specs.declared.functions.UnpivotArgsIR.{UnpivotArgsIR}
use Rattle.plan_ir.specs.declared.ir.IR.{IR}
use Rattle.plan_ir.specs.declared.ir.IR.TheVariants as nodes
use Rattle.plan_ir.specs.declared.scan.FileInfo.{FileInfo}
use Rattle.plan_scan.specs.declared.file_scan.FileScan.{FileScan}
use Rattle.plan_scan.specs.declared.sources.ScanSources.{ScanSources}
use Rattle.plan_scan.specs.declared.sources.ScanSources.TheVariants as sources
use Rattle.plan_scan.specs.Stats.{Stats}
use Rattle.plan_scan.specs.declared.stats.ColumnStats.{ColumnStats}
use Rattle.plan_join.specs.declared.options.JoinOptions.{JoinOptions}
use Rattle.plan_join.specs.declared.options.JoinTypeOptionsIR.{JoinTypeOptionsIR}
use Rattle.plan_join.specs.declared.options.JoinTypeOptionsIR.TheVariants as told
use Rattle.plan_options.specs.declared.distinct.DistinctOptionsIR.{DistinctOptionsIR}
use Rattle.plan_options.specs.declared.group.GroupbyOptions.{GroupbyOptions}
use Rattle.plan_options.specs.declared.join.IEJoinOptions.{IEJoinOptions}
use Rattle.plan_options.specs.declared.join.InequalityOperator.{InequalityOperator}
use Rattle.plan_options.specs.declared.sort.SortMultipleOptions.{SortMultipleOptions}
use Rattle.plan_options.specs.declared.union.HConcatOptions.{HConcatOptions}
use Rattle.plan_options.specs.declared.union.UnionOptions.{UnionOptions}
use Rattle.plan_table.specs.declared.value.AnyValue.{AnyValue}
use Rattle.plan_table.specs.declared.value.AnyValue.TheVariants as values
use Rattle.plan_table.specs.declared.value.PlainValue.{PlainValue}
use Rattle.plan_table.specs.declared.value.PlainValue.TheVariants as singles
use Rattle.plan_text_pieces.specs.Cells.{single_data, value_data}
use Rattle.plan_text_pieces.specs.Hive.{hive_column_data, hive_part_data, hive_parts_data}
use Rattle.plan_text_pieces.specs.Kinds.{place_of}
use Rattle.plan_text_pieces.specs.Values.{link_data, integer_data, number_data, list_data, nullable_data, field_data, columns_data, names_data, truths_data, output_data, outputs_data, options_data, slice_data, row_index_data, sources_data}
use Rattle.plan_text_pieces.specs.JoinOptions.{second_items, inequalities_data, kind_options_data}
use Rattle.plan_text_pieces.specs.Functions.{rename_data, numbering_data, unpivot_data, explode_data, count_data, frame_function_data}
use Rattle.plan_text.specs.Exprs.{literal_data, expr_data}
use Rattle.plan_text.specs.Nodes.{slice_node_data, scan_data, frame_scan_data, made_data, sort_data, group_by_data, join_data, distinct_data, map_function_data, union_data, hconcat_data, cache_data, node_data}
use Rattle.plan_text.specs.Written.{plan_data, fault_data}

-- the value has no float
abbrev IsPlain : Data → Type 0
IsPlain d = has_float d ≡ false

integer_plain : (z : ℤ) → IsPlain (integer_data z)
integer_plain (pos n) = refl
integer_plain (negsuc n) = refl

list_plain : {A : Type 0} (f : A → Data) (xs : List A) → ((x : A) → IsPlain (f x)) → IsPlain (list_data f xs)
unfolding list_data
list_plain f [] each = refl
list_plain f (x ∷ xs) each = rw (each x, list_plain f xs each) refl

nullable_plain : {A : Type 0} (f : A → Data) (o : Option A) → ((x : A) → IsPlain (f x)) → IsPlain (nullable_data f o)
nullable_plain f None each = refl
nullable_plain f (Some x) each = each x

output_plain : (e : ExprIR) → IsPlain (output_data e)
unfolding output_data
output_plain e = refl

outputs_plain : (es : List ExprIR) → IsPlain (outputs_data es)
outputs_plain es = list_plain output_data es output_plain

options_plain : (o : ProjectionOptions) → IsPlain (options_data o)
unfolding options_data
options_plain o = refl

names_plain : (ns : List (List ℕ)) → IsPlain (names_data ns)
names_plain ns = list_plain string ns (λ n. refl)

truths_plain : (bs : List Bool) → IsPlain (truths_data bs)
truths_plain bs = list_plain boolean bs (λ b. refl)

columns_plain : (cs : Columns) → IsPlain (columns_data cs)
columns_plain cs = list_plain field_data cs (λ f. refl)

sources_plain : (s : ScanSources) → IsPlain (sources_data s)
sources_plain (sources.Paths ps) = rw (names_plain ps) refl
sources_plain (sources.Buffers ns) = rw (list_plain number_data ns (λ n. refl)) refl

single_plain : (v : PlainValue) → IsPlain (single_data v)
single_plain singles.Null = refl
single_plain (singles.Int64 z) = integer_plain z
single_plain (singles.String s) = refl
single_plain (singles.Boolean b) = refl

value_plain : (v : AnyValue) → IsPlain (value_data v)
value_plain values.Null = refl
value_plain (values.Int64 z) = integer_plain z
value_plain (values.String s) = refl
value_plain (values.Boolean b) = refl
value_plain (values.List vs) = list_plain single_data vs single_plain

hive_column_plain : (s : ColumnStats) → IsPlain (hive_column_data s)
hive_column_plain s = rw (value_plain s.value) refl

hive_part_plain : (ss : Stats) → IsPlain (hive_part_data ss)
hive_part_plain ss = list_plain hive_column_data ss hive_column_plain

hive_parts_plain : (parts : List Stats) → IsPlain (hive_parts_data parts)
hive_parts_plain parts = list_plain hive_part_data parts hive_part_plain

slice_plain : (s : ℤ × ℕ) → IsPlain (slice_data s)
slice_plain s = rw (integer_plain s.0) refl

literal_plain : (v : LiteralValue) → IsPlain (literal_data v)
literal_plain (literals.Null t) = refl
literal_plain (literals.Int64 z) = integer_plain z
literal_plain (literals.String s) = refl
literal_plain (literals.Boolean b) = refl

links_plain : (ns : List Node) → IsPlain (list_data link_data ns)
links_plain ns = list_plain link_data ns (λ n. refl)

expr_plain : (e : AExpr) → IsPlain (expr_data e)
unfolding expr_data
expr_plain (exprs.Column s) = refl
expr_plain (exprs.Literal v) = rw (literal_plain v) refl
expr_plain (exprs.Alias input s) = refl
expr_plain (exprs.BinaryExpr left op right) = refl
expr_plain (exprs.Ternary predicate truthy falsy) = refl
expr_plain (exprs.Agg agg) = refl
expr_plain (exprs.Function input function options) = rw (links_plain input) refl
expr_plain (exprs.Window function partition_by) = rw (links_plain partition_by) refl
expr_plain exprs.Len = refl

slice_node_plain : (input : Node) (offset : ℤ) (len : ℕ) → IsPlain (slice_node_data input offset len)
unfolding slice_node_data
slice_node_plain input offset len = rw (integer_plain offset) refl

scan_plain : (from : ScanSources) (info : FileInfo) (hive : Option (List Stats)) (predicate : Option ExprIR) (output : Option Columns) (format : FileScan) (options : FileScanOptions) → IsPlain (scan_data from info hive predicate output format options)
unfolding scan_data
scan_plain from info hive predicate output format options =
    rw (
      nullable_plain names_data options.with_columns names_plain,
      nullable_plain hive_parts_data hive hive_parts_plain,
      nullable_plain columns_data output columns_plain,
      nullable_plain string options.include_file_paths (λ n. refl),
      nullable_plain output_data predicate output_plain,
      nullable_plain columns_data info.reader_schema columns_plain,
      nullable_plain row_index_data options.row_index (λ r. refl),
      columns_plain info.schema,
      nullable_plain slice_data options.slice slice_plain,
      sources_plain from,
    ) refl

frame_scan_plain : (df : Option ℕ) (schema : Columns) (output : Option Columns) → IsPlain (frame_scan_data df schema output)
unfolding frame_scan_data
frame_scan_plain df schema output = rw (nullable_plain number_data df (λ n. refl), nullable_plain columns_data output columns_plain, columns_plain schema) refl

made_plain : (op : List ℕ) (input : Node) (exprs : List ExprIR) (schema : Columns) (options : ProjectionOptions) → IsPlain (made_data op input exprs schema options)
unfolding made_data
made_plain op input exprs schema options = rw (outputs_plain exprs, options_plain options, columns_plain schema) refl

sort_plain : (input : Node) (keys : List ExprIR) (slice : Option (ℤ × ℕ)) (options : SortMultipleOptions) → IsPlain (sort_data input keys slice options)
unfolding sort_data
sort_plain input keys slice options =
    rw (outputs_plain keys, truths_plain options.descending, truths_plain options.nulls_last, nullable_plain slice_data slice slice_plain) refl

group_by_plain : (input : Node) (keys aggs : List ExprIR) (schema : Columns) (maintain_order : Bool) (options : GroupbyOptions) → IsPlain (group_by_data input keys aggs schema maintain_order options)
unfolding group_by_data
group_by_plain input keys aggs schema maintain_order options =
    rw (outputs_plain aggs, outputs_plain keys, columns_plain schema, nullable_plain slice_data options.slice slice_plain) refl

second_plain : (o : Option InequalityOperator) → items_have_float (second_items o) ≡ false
second_plain None = refl
second_plain (Some op) = refl

inequalities_plain : (o : IEJoinOptions) → IsPlain (inequalities_data o)
unfolding inequalities_data
inequalities_plain o = second_plain o.operator2

kind_options_plain : (k : JoinTypeOptionsIR) → IsPlain (kind_options_data k)
unfolding kind_options_data
kind_options_plain (told.IEJoin o) = rw (inequalities_plain o) refl
kind_options_plain (told.Cross predicate) = rw (output_plain predicate) refl

join_plain : (left right : Node) (schema : Columns) (left_on right_on : List ExprIR) (options : JoinOptions) → IsPlain (join_data left right schema left_on right_on options)
unfolding join_data
join_plain left right schema left_on right_on options =
    rw (
      outputs_plain left_on,
      nullable_plain kind_options_data options.options kind_options_plain,
      outputs_plain right_on,
      columns_plain schema,
      nullable_plain slice_data options.args.slice slice_plain,
      nullable_plain string options.args.suffix (λ n. refl),
    ) refl

distinct_plain : (input : Node) (options : DistinctOptionsIR) → IsPlain (distinct_data input options)
unfolding distinct_data
distinct_plain input options = rw (nullable_plain slice_data options.slice slice_plain, nullable_plain names_data options.subset names_plain) refl

rename_plain : (existing new : List (List ℕ)) (swapping : Bool) → IsPlain (rename_data existing new swapping)
unfolding rename_data
rename_plain existing new swapping = rw (names_plain existing, names_plain new) refl

numbering_plain : (name : List ℕ) (offset : Option ℕ) → IsPlain (numbering_data name offset)
unfolding numbering_data
numbering_plain name offset = rw (nullable_plain number_data offset (λ n. refl)) refl

unpivot_plain : (args : UnpivotArgsIR) → IsPlain (unpivot_data args)
unfolding unpivot_data
unpivot_plain args = rw (names_plain args.index, names_plain args.on, nullable_plain string args.value_name (λ n. refl), nullable_plain string args.variable_name (λ n. refl)) refl

explode_plain : (columns : List (List ℕ)) → IsPlain (explode_data columns)
unfolding explode_data
explode_plain columns = rw (names_plain columns) refl

count_plain : (from : ScanSources) (format : FileScan) (alias : Option (List ℕ)) → IsPlain (count_data from format alias)
unfolding count_data
count_plain from format alias = rw (nullable_plain string alias (λ n. refl), sources_plain from) refl

frame_function_plain : (f : FunctionIR) → IsPlain (frame_function_data f)
unfolding frame_function_data
frame_function_plain (functions.Rename existing new swapping) = rw (rename_plain existing new swapping) refl
frame_function_plain (functions.RowIndex name offset) = rw (numbering_plain name offset) refl
frame_function_plain (functions.Unpivot args) = rw (unpivot_plain args) refl
frame_function_plain (functions.Explode columns) = rw (explode_plain columns) refl
frame_function_plain (functions.FastCount from format alias) = rw (count_plain from format alias) refl

map_function_plain : (input : Node) (function : FunctionIR) → IsPlain (map_function_data input function)
unfolding map_function_data
map_function_plain input function = rw (frame_function_plain function) refl

union_plain : (inputs : List Node) (options : UnionOptions) → IsPlain (union_data inputs options)
unfolding union_data
union_plain inputs options = rw (links_plain inputs, nullable_plain slice_data options.slice slice_plain) refl

hconcat_plain : (inputs : List Node) (schema : Columns) (options : HConcatOptions) → IsPlain (hconcat_data inputs schema options)
unfolding hconcat_data
hconcat_plain inputs schema options = rw (links_plain inputs, columns_plain schema) refl

cache_plain : (input : Node) (id hits : ℕ) → IsPlain (cache_data input id hits)
unfolding cache_data
cache_plain input id hits = refl

pub node_plain : (n : IR) → IsPlain (node_data n)
unfolding node_data
node_plain (nodes.Slice input offset len) = slice_node_plain input offset len
node_plain (nodes.Filter input predicate) = rw (output_plain predicate) refl
node_plain (nodes.Scan from info hive predicate output format options) = scan_plain from info hive predicate output format options
node_plain (nodes.DataFrameScan df schema output) = frame_scan_plain df schema output
node_plain (nodes.SimpleProjection input columns) = rw (columns_plain columns) refl
node_plain (nodes.Select input expr schema options) = made_plain _ input expr schema options
node_plain (nodes.HStack input exprs schema options) = made_plain _ input exprs schema options
node_plain (nodes.Sort input keys slice options) = sort_plain input keys slice options
node_plain (nodes.GroupBy input keys aggs schema maintain_order options) = group_by_plain input keys aggs schema maintain_order options
node_plain (nodes.Join left right schema left_on right_on options) = join_plain left right schema left_on right_on options
node_plain (nodes.Distinct input options) = distinct_plain input options
node_plain (nodes.MapFunction input function) = map_function_plain input function
node_plain (nodes.Sink input payload) = refl
node_plain (nodes.Union inputs options) = union_plain inputs options
node_plain (nodes.HConcat inputs schema options) = hconcat_plain inputs schema options
node_plain (nodes.Cache input id hits) = cache_plain input id hits
node_plain nodes.Invalid = refl

pub exprs_plain : (ex : List AExpr) → has_float (list_data expr_data ex) ≡ false
exprs_plain ex = list_plain expr_data ex expr_plain

pub plan_plain : (lp : List IR) (ex : List AExpr) (root : Node) → has_float (plan_data lp ex root) ≡ false
unfolding plan_data
plan_plain lp ex root = rw (exprs_plain ex, list_plain node_data lp node_plain) refl

pub fault_plain : (e : PolarsError) → has_float (fault_data e) ≡ false
unfolding fault_data
fault_plain e = rw (nullable_plain link_data (place_of e).node (λ n. refl)) refl
