-- Plans nest few levels, so the text of a plan reads back.
use Rattle.std.proofs.Common.{◌≡◌, ℕ, ℤ, suc, max, ◌≤◌, Bool, List, [], ◌∷◌, map, Option, Some, None, refl, arith}
use Rattle.serde_json.specs.Data.{Data, boolean, string, depth, items_depth}
use Rattle.serde_json.specs.Read.{max_depth}
use Rattle.serde_json.specs.View.{items_of}
use Rattle.plan_core.specs.Columns.{Columns}
use Rattle.plan_core.specs.declared.arena.Node.{Node}
use Rattle.plan_core.specs.declared.options.FileScanOptions.{FileScanOptions}
use Rattle.plan_core.specs.declared.options.ProjectionOptions.{ProjectionOptions}
use Rattle.plan_expr.specs.declared.aexpr.AExpr.{AExpr}
use Rattle.plan_expr.specs.declared.aexpr.AExpr.TheVariants as exprs
use Rattle.plan_expr.specs.declared.expr_ir.ExprIR.{ExprIR}
use Rattle.plan_expr.specs.declared.literal.LiteralValue.{LiteralValue}
use Rattle.plan_expr.specs.declared.literal.LiteralValue.TheVariants as literals
use Rattle.plan_ir.specs.declared.functions.FunctionIR.{FunctionIR}
use Rattle.plan_ir.specs.declared.functions.FunctionIR.TheVariants as functions
use Rattle.plan_ir.specs.declared.functions.UnpivotArgsIR.{UnpivotArgsIR}
use Rattle.plan_ir.specs.declared.ir.IR.{IR}
use Rattle.plan_ir.specs.declared.ir.IR.TheVariants as nodes
use Rattle.plan_ir.specs.declared.scan.FileInfo.{FileInfo}
use Rattle.plan_scan.specs.declared.file_scan.FileScan.{FileScan}
use Rattle.plan_scan.specs.declared.sources.ScanSources.{ScanSources}
use Rattle.plan_scan.specs.declared.sources.ScanSources.TheVariants as sources
use Rattle.plan_scan.specs.Stats.{Stats}
use Rattle.plan_scan.specs.declared.stats.ColumnStats.{ColumnStats}
use Rattle.plan_join.specs.declared.options.JoinOptions.{JoinOptions}
use Rattle.plan_join.specs.declared.options.JoinTypeOptionsIR.{JoinTypeOptionsIR}
use Rattle.plan_join.specs.declared.options.JoinTypeOptionsIR.TheVariants as told
use Rattle.plan_options.specs.declared.distinct.DistinctOptionsIR.{DistinctOptionsIR}
use Rattle.plan_options.specs.declared.group.GroupbyOptions.{GroupbyOptions}
use Rattle.plan_options.specs.declared.join.IEJoinOptions.{IEJoinOptions}
use Rattle.plan_options.specs.declared.join.InequalityOperator.{InequalityOperator}
use Rattle.plan_options.specs.declared.sort.SortMultipleOptions.{SortMultipleOptions}
use Rattle.plan_options.specs.declared.union.HConcatOptions.{HConcatOptions}
use Rattle.plan_options.specs.declared.union.UnionOptions.{UnionOptions}
use Rattle.plan_table.specs.declared.value.AnyValue.{AnyValue}
use Rattle.plan_table.specs.declared.value.AnyValue.TheVariants as values
use Rattle.plan_table.specs.declared.value.PlainValue.{PlainValue}
use Rattle.plan_table.specs.declared.value.PlainValue.TheVariants as singles
use Rattle.plan_text_pieces.specs.Cells.{single_data, value_data}
use Rattle.plan_text_pieces.specs.Hive.{hive_column_data, hive_part_data, hive_parts_data}
use Rattle.plan_text_pieces.specs.Values.{link_data, list_data, nullable_data, number_data, field_data, columns_data, names_data, truths_data, output_data, outputs_data, options_data, slice_data, row_index_data, sources_data}
use Rattle.plan_text_pieces.specs.JoinOptions.{second_items, inequalities_data, kind_options_data}
use Rattle.plan_text_pieces.specs.Functions.{rename_data, numbering_data, unpivot_data, explode_data, count_data, frame_function_data}
use Rattle.plan_text.specs.Exprs.{literal_data, expr_data}
use Rattle.plan_text.specs.Nodes.{slice_node_data, scan_data, frame_scan_data, made_data, sort_data, group_by_data, join_data, distinct_data, map_function_data, union_data, hconcat_data, cache_data, node_data}
use Rattle.plan_text.specs.Written.{plan_data}

both : (a b k : ℕ) → a ≤ k → b ≤ k → max a b ≤ k
both a b k p q = omega arith

items_deep : {A : Type 0} (f : A → Data) (k : ℕ) (xs : List A) → ((x : A) → depth (f x) ≤ k) → items_depth (items_of (map f xs)) ≤ k
items_deep f k [] each = omega arith
items_deep f k (x ∷ xs) each = both _ _ k (each x) (items_deep f k xs each)

list_deep : {A : Type 0} (f : A → Data) (k : ℕ) (xs : List A) → ((x : A) → depth (f x) ≤ k) → depth (list_data f xs) ≤ suc k
unfolding list_data
list_deep f k xs each = let below = items_deep f k xs each in omega arith

nullable_deep : {A : Type 0} (f : A → Data) (k : ℕ) (o : Option A) → ((x : A) → depth (f x) ≤ k) → depth (nullable_data f o) ≤ k
nullable_deep f k None each = omega arith
nullable_deep f k (Some x) each = each x

flat : (d : Data) (k : ℕ) → depth d ≡ 0 → depth d ≤ k
flat d k e = omega (arith, e)

names_deep : (ns : List (List ℕ)) → depth (names_data ns) ≤ 1
names_deep ns = list_deep string 0 ns (λ n. flat (string n) 0 refl)

truths_deep : (bs : List Bool) → depth (truths_data bs) ≤ 1
truths_deep bs = list_deep boolean 0 bs (λ b. flat (boolean b) 0 refl)

columns_deep : (cs : Columns) → depth (columns_data cs) ≤ 2
columns_deep cs = list_deep field_data 1 cs (λ f. omega arith)

output_deep : (e : ExprIR) → depth (output_data e) ≤ 2
unfolding output_data
output_deep e = omega arith

outputs_deep : (es : List ExprIR) → depth (outputs_data es) ≤ 3
outputs_deep es = list_deep output_data 2 es output_deep

options_deep : (o : ProjectionOptions) → depth (options_data o) ≤ 1
unfolding options_data
options_deep o = omega arith

sources_deep : (s : ScanSources) → depth (sources_data s) ≤ 2
sources_deep (sources.Paths ps) = let below = names_deep ps in omega arith
sources_deep (sources.Buffers ns) = let below = list_deep number_data 0 ns (λ n. flat (number_data n) 0 refl) in omega arith

single_deep : (v : PlainValue) → depth (single_data v) ≤ 0
single_deep singles.Null = omega arith
single_deep (singles.Int64 z) = omega arith
single_deep (singles.String s) = omega arith
single_deep (singles.Boolean b) = omega arith

value_deep : (v : AnyValue) → depth (value_data v) ≤ 1
value_deep values.Null = omega arith
value_deep (values.Int64 z) = omega arith
value_deep (values.String s) = omega arith
value_deep (values.Boolean b) = omega arith
value_deep (values.List vs) = list_deep single_data 0 vs single_deep

hive_column_deep : (s : ColumnStats) → depth (hive_column_data s) ≤ 2
hive_column_deep s = let below = value_deep s.value in omega arith

hive_part_deep : (ss : Stats) → depth (hive_part_data ss) ≤ 3
hive_part_deep ss = list_deep hive_column_data 2 ss hive_column_deep

hive_parts_deep : (parts : List Stats) → depth (hive_parts_data parts) ≤ 4
hive_parts_deep parts = list_deep hive_part_data 3 parts hive_part_deep

scan_deep : (from : ScanSources) (info : FileInfo) (hive : Option (List Stats)) (predicate : Option ExprIR) (output : Option Columns) (format : FileScan) (options : FileScanOptions) → depth (scan_data from info hive predicate output format options) ≤ 5
unfolding scan_data
scan_deep from info hive predicate output format options =
    let read = nullable_deep names_data 1 options.with_columns names_deep in
    let parts = nullable_deep hive_parts_data 4 hive hive_parts_deep in
    let put_out = nullable_deep columns_data 2 output columns_deep in
    let path = nullable_deep string 0 options.include_file_paths (λ n. flat (string n) 0 refl) in
    let kept = nullable_deep output_data 2 predicate output_deep in
    let found = nullable_deep columns_data 2 info.reader_schema columns_deep in
    let numbered = nullable_deep row_index_data 1 options.row_index (λ r. omega arith) in
    let all = columns_deep info.schema in
    let some = nullable_deep slice_data 1 options.slice (λ r. omega arith) in
    let places = sources_deep from in
    omega arith

slice_node_deep : (input : Node) (offset : ℤ) (len : ℕ) → depth (slice_node_data input offset len) ≤ 5
unfolding slice_node_data
slice_node_deep input offset len = omega arith

frame_scan_deep : (df : Option ℕ) (schema : Columns) (output : Option Columns) → depth (frame_scan_data df schema output) ≤ 5
unfolding frame_scan_data
frame_scan_deep df schema output =
    let number = nullable_deep number_data 0 df (λ n. flat (number_data n) 0 refl) in
    let put_out = nullable_deep columns_data 2 output columns_deep in
    let all = columns_deep schema in
    omega arith

made_deep : (op : List ℕ) (input : Node) (exprs : List ExprIR) (schema : Columns) (options : ProjectionOptions) → depth (made_data op input exprs schema options) ≤ 5
unfolding made_data
made_deep op input exprs schema options =
    let outputs = outputs_deep exprs in
    let allowed = options_deep options in
    let all = columns_deep schema in
    omega arith

sort_deep : (input : Node) (keys : List ExprIR) (slice : Option (ℤ × ℕ)) (options : SortMultipleOptions) → depth (sort_data input keys slice options) ≤ 5
unfolding sort_data
sort_deep input keys slice options =
    let named = outputs_deep keys in
    let falls = truths_deep options.descending in
    let nulls = truths_deep options.nulls_last in
    let some = nullable_deep slice_data 1 slice (λ r. omega arith) in
    omega arith

group_by_deep : (input : Node) (keys aggs : List ExprIR) (schema : Columns) (maintain_order : Bool) (options : GroupbyOptions) → depth (group_by_data input keys aggs schema maintain_order options) ≤ 5
unfolding group_by_data
group_by_deep input keys aggs schema maintain_order options =
    let made = outputs_deep aggs in
    let named = outputs_deep keys in
    let all = columns_deep schema in
    let some = nullable_deep slice_data 1 options.slice (λ r. omega arith) in
    omega arith

second_deep : (o : Option InequalityOperator) → items_depth (second_items o) ≤ 0
second_deep None = omega arith
second_deep (Some op) = omega arith

inequalities_deep : (o : IEJoinOptions) → depth (inequalities_data o) ≤ 1
unfolding inequalities_data
inequalities_deep o = let more = second_deep o.operator2 in omega arith

kind_options_deep : (k : JoinTypeOptionsIR) → depth (kind_options_data k) ≤ 3
unfolding kind_options_data
kind_options_deep (told.IEJoin o) = let meet = inequalities_deep o in omega arith
kind_options_deep (told.Cross predicate) = let meets = output_deep predicate in omega arith

join_deep : (left right : Node) (schema : Columns) (left_on right_on : List ExprIR) (options : JoinOptions) → depth (join_data left right schema left_on right_on options) ≤ 5
unfolding join_data
join_deep left right schema left_on right_on options =
    let lefts = outputs_deep left_on in
    let told = nullable_deep kind_options_data 3 options.options kind_options_deep in
    let rights = outputs_deep right_on in
    let all = columns_deep schema in
    let some = nullable_deep slice_data 1 options.args.slice (λ r. omega arith) in
    let suffix = nullable_deep string 0 options.args.suffix (λ n. flat (string n) 0 refl) in
    omega arith

distinct_deep : (input : Node) (options : DistinctOptionsIR) → depth (distinct_data input options) ≤ 5
unfolding distinct_data
distinct_deep input options =
    let some = nullable_deep slice_data 1 options.slice (λ r. omega arith) in
    let told = nullable_deep names_data 1 options.subset names_deep in
    omega arith

rename_deep : (existing new : List (List ℕ)) (swapping : Bool) → depth (rename_data existing new swapping) ≤ 2
unfolding rename_data
rename_deep existing new swapping =
    let given = names_deep existing in
    let made = names_deep new in
    omega arith

numbering_deep : (name : List ℕ) (offset : Option ℕ) → depth (numbering_data name offset) ≤ 2
unfolding numbering_data
numbering_deep name offset =
    let first = nullable_deep number_data 0 offset (λ n. flat (number_data n) 0 refl) in
    omega arith

unpivot_deep : (args : UnpivotArgsIR) → depth (unpivot_data args) ≤ 2
unfolding unpivot_data
unpivot_deep args =
    let repeats = names_deep args.index in
    let told = names_deep args.on in
    let value = nullable_deep string 0 args.value_name (λ n. flat (string n) 0 refl) in
    let variable = nullable_deep string 0 args.variable_name (λ n. flat (string n) 0 refl) in
    omega arith

explode_deep : (columns : List (List ℕ)) → depth (explode_data columns) ≤ 2
unfolding explode_data
explode_deep columns = let told = names_deep columns in omega arith

count_deep : (from : ScanSources) (format : FileScan) (alias : Option (List ℕ)) → depth (count_data from format alias) ≤ 3
unfolding count_data
count_deep from format alias =
    let told = nullable_deep string 0 alias (λ n. flat (string n) 0 refl) in
    let places = sources_deep from in
    omega arith

frame_function_deep : (f : FunctionIR) → depth (frame_function_data f) ≤ 4
unfolding frame_function_data
frame_function_deep (functions.Rename existing new swapping) = let told = rename_deep existing new swapping in omega arith
frame_function_deep (functions.RowIndex name offset) = let told = numbering_deep name offset in omega arith
frame_function_deep (functions.Unpivot args) = let told = unpivot_deep args in omega arith
frame_function_deep (functions.Explode columns) = let told = explode_deep columns in omega arith
frame_function_deep (functions.FastCount from format alias) = let told = count_deep from format alias in omega arith

map_function_deep : (input : Node) (function : FunctionIR) → depth (map_function_data input function) ≤ 5
unfolding map_function_data
map_function_deep input function = let told = frame_function_deep function in omega arith

literal_deep : (v : LiteralValue) → depth (literal_data v) ≤ 0
literal_deep (literals.Null t) = omega arith
literal_deep (literals.Int64 z) = omega arith
literal_deep (literals.String s) = omega arith
literal_deep (literals.Boolean b) = omega arith

links_deep : (ns : List Node) → depth (list_data link_data ns) ≤ 1
links_deep ns = list_deep link_data 0 ns (λ n. flat (link_data n) 0 refl)

union_deep : (inputs : List Node) (options : UnionOptions) → depth (union_data inputs options) ≤ 5
unfolding union_data
union_deep inputs options =
    let numbers = links_deep inputs in
    let some = nullable_deep slice_data 1 options.slice (λ r. omega arith) in
    omega arith

hconcat_deep : (inputs : List Node) (schema : Columns) (options : HConcatOptions) → depth (hconcat_data inputs schema options) ≤ 5
unfolding hconcat_data
hconcat_deep inputs schema options =
    let numbers = links_deep inputs in
    let all = columns_deep schema in
    omega arith

cache_deep : (input : Node) (id hits : ℕ) → depth (cache_data input id hits) ≤ 5
unfolding cache_data
cache_deep input id hits = omega arith

expr_deep : (e : AExpr) → depth (expr_data e) ≤ 4
unfolding expr_data
expr_deep (exprs.Column s) = omega arith
expr_deep (exprs.Literal v) = let value = literal_deep v in omega arith
expr_deep (exprs.Alias input s) = omega arith
expr_deep (exprs.BinaryExpr left op right) = omega arith
expr_deep (exprs.Ternary predicate truthy falsy) = omega arith
expr_deep (exprs.Agg agg) = omega arith
expr_deep (exprs.Function input function options) = let inputs = links_deep input in omega arith
expr_deep (exprs.Window function partition_by) = let keys = links_deep partition_by in omega arith
expr_deep exprs.Len = omega arith

node_deep : (n : IR) → depth (node_data n) ≤ 5
unfolding node_data
node_deep (nodes.Slice input offset len) = slice_node_deep input offset len
node_deep (nodes.Filter input predicate) = let below = output_deep predicate in omega arith
node_deep (nodes.Scan from info hive predicate output format options) = scan_deep from info hive predicate output format options
node_deep (nodes.DataFrameScan df schema output) = frame_scan_deep df schema output
node_deep (nodes.SimpleProjection input columns) = let below = columns_deep columns in omega arith
node_deep (nodes.Select input expr schema options) = made_deep _ input expr schema options
node_deep (nodes.HStack input exprs schema options) = made_deep _ input exprs schema options
node_deep (nodes.Sort input keys slice options) = sort_deep input keys slice options
node_deep (nodes.GroupBy input keys aggs schema maintain_order options) = group_by_deep input keys aggs schema maintain_order options
node_deep (nodes.Join left right schema left_on right_on options) = join_deep left right schema left_on right_on options
node_deep (nodes.Distinct input options) = distinct_deep input options
node_deep (nodes.MapFunction input function) = map_function_deep input function
node_deep (nodes.Sink input payload) = omega arith
node_deep (nodes.Union inputs options) = union_deep inputs options
node_deep (nodes.HConcat inputs schema options) = hconcat_deep inputs schema options
node_deep (nodes.Cache input id hits) = cache_deep input id hits
node_deep nodes.Invalid = omega arith

-- a plan nests at most 7 levels
plan_nests : (lp : List IR) (ex : List AExpr) (root : Node) → depth (plan_data lp ex root) ≤ 7
unfolding plan_data
plan_nests lp ex root =
    let of_nodes = list_deep node_data 5 lp node_deep in
    let of_exprs = list_deep expr_data 4 ex expr_deep in
    omega arith

pub plan_deep : (lp : List IR) (ex : List AExpr) (root : Node) → depth (plan_data lp ex root) ≤ max_depth
plan_deep lp ex root = let few = plan_nests lp ex root in omega arith
