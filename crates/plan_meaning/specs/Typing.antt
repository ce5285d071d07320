-- Which plans are valid: the schema of a plan, and the checks on its nodes in the order in which faults are told.
use Rattle.std.specs.Prelude.{◌≡◌, ℕ, ℤ, suc, ◌==◌, min, Bool, true, false, not, ◌&&◌, ◌||◌, List, [], ◌∷◌, ◌++◌, length, Option, Some, None, is_some, if◌then◌else◌, Result, Ok, Err}
use Rattle.std.specs.List.{list_all}
use Rattle.plan_core.specs.declared.arena.Node.{Node}
use Rattle.plan_core.specs.declared.error.At.{At}
use Rattle.plan_core.specs.declared.error.PolarsError.{PolarsError}
use Rattle.plan_core.specs.declared.error.PolarsError.TheVariants.{SchemaFieldNotFound, Duplicate, SchemaMismatch, InvalidOperation, ComputeError, OutOfMemory}
use Rattle.plan_core.specs.declared.data_type.DataType.{DataType}
use Rattle.plan_core.specs.declared.options.FileScanOptions.{FileScanOptions}
use Rattle.plan_options.specs.declared.distinct.DistinctOptionsIR.{DistinctOptionsIR}
use Rattle.plan_options.specs.declared.group.GroupbyOptions.{GroupbyOptions}
use Rattle.plan_options.specs.declared.sort.SortMultipleOptions.{SortMultipleOptions}
use Rattle.plan_options.specs.declared.union.UnionOptions.{UnionOptions}
use Rattle.plan_core.specs.Columns.{Columns, names_of, type_of, same_columns}
use Rattle.plan_core.specs.Names.{has}
use Rattle.plan_tree.specs.Rose.{Rose, Roses, rose, no_roses, more}
use Rattle.plan_ir.specs.declared.functions.FunctionIR.{FunctionIR}
use Rattle.plan_ir.specs.declared.functions.FunctionIR.TheVariants.{Rename, RowIndex, Unpivot, Explode, FastCount}
use Rattle.plan_ir.specs.declared.functions.UnpivotArgsIR.{UnpivotArgsIR}
use Rattle.plan_files.specs.FileColumns.{file_columns, hive_columns, plain_columns, row_columns}
use Rattle.plan_files.specs.FileReads.{is_read, is_told}
use Rattle.plan_files.specs.HiveParts.{are_alike, are_one_each}
use Rattle.plan_ir.specs.declared.scan.FileInfo.{FileInfo}
use Rattle.plan_scan.specs.Sources.{sources_of}
use Rattle.plan_scan.specs.Stats.{Stats}
use Rattle.plan_expr.specs.Exprs.{Named}
use Rattle.plan_expr.specs.Forms.{has_form}
use Rattle.plan_expr.specs.Types.{is_plain}
use Rattle.plan_ir.specs.Plans.{Op, slice, filter, scan, frame_scan, simple_projection, select, hstack, sort, group_by, join, distinct, map_function, sink, union, hconcat, cache, invalid}
use Rattle.plan_expr.specs.Leaves.{Name, leaves}
use Rattle.plan_expr.specs.Naming.{naming, may_be_named}
use Rattle.plan_meaning.specs.Functions.{renamed, stay_apart, value_names, unpivoted_names, all_differ, first_type, function_schema}
use Rattle.plan_frame.specs.Exprs.{all_known, expr_type, is_type}
use Rattle.plan_frame.specs.Grouping.{group_exprs}
use Rattle.plan_core.specs.declared.data_type.DataType.TheVariants as types
use Rattle.plan_frame.specs.Made.{made_schema}
use Rattle.plan_frame.specs.Beside.{side_by_side, are_apart}
use Rattle.plan_frame.specs.Frames.{names_or}
use Rattle.plan_join.specs.Naming.{join_columns}
use Rattle.plan_join.specs.Told.{column_keys}
use Rattle.plan_meaning.specs.Checks.{Check, check, is_empty, is_none, each, is_known, is_column, each_new, stored_checks, form_checks, leaf_checks, type_checks, once_checks, naming_checks, plain_checks}
use Rattle.plan_meaning.specs.JoinChecks.{join_checks}

-- Schemas

-- the columns that are told, else the others
abbrev pub columns_or : Option Columns → Columns → Columns
columns_or None s = s
columns_or (Some t) s = t

-- the columns that a reader finds in the files of a scan
abbrev pub reader_columns : FileInfo → Columns
reader_columns info = columns_or info.reader_schema []

-- the columns that a scan can put out: those of its files, in the order of the files
abbrev pub scan_columns : FileInfo → Option (List Stats) → FileScanOptions → Columns
scan_columns info hive options = file_columns (reader_columns info) (hive_columns hive) options

-- the columns of the first input
abbrev pub first_schema : List Columns → Columns
first_schema [] = []
first_schema (s ∷ ss) = s

-- the columns of the inputs after the first
abbrev pub rest_schemas : List Columns → List Columns
rest_schemas [] = []
rest_schemas (s ∷ ss) = ss

-- the columns of a node, from those of its inputs
abbrev pub schema_by : Op → List Columns → Columns
schema_by (slice offset len) ss = first_schema ss
schema_by (filter predicate) ss = first_schema ss
schema_by (scan sources info hive predicate output kind options) ss = columns_or output (scan_columns info hive options)
schema_by (frame_scan df schema output) ss = columns_or output schema
schema_by (simple_projection columns) ss = columns
schema_by (select exprs schema options) ss = made_schema [] exprs (first_schema ss)
schema_by (hstack exprs schema options) ss = made_schema (first_schema ss) exprs (first_schema ss)
schema_by (sort keys part options) ss = first_schema ss
schema_by (group_by keys aggs schema ordered options) ss = made_schema [] (group_exprs keys aggs) (first_schema ss)
schema_by (join left_on right_on schema told) ss = join_columns told.args (column_keys left_on) (column_keys right_on) (first_schema ss) (first_schema (rest_schemas ss))
schema_by (distinct options) ss = first_schema ss
schema_by (map_function function) ss = function_schema function (first_schema ss)
schema_by (sink payload) ss = first_schema ss
schema_by (union options) ss = first_schema ss
schema_by (hconcat schema options) ss = side_by_side ss
schema_by (cache id hits) ss = first_schema ss
schema_by invalid ss = []

-- the columns of plans, from left to right
abbrev pub schemas : {N : Type 0} → Roses N Op → List Columns
schemas no_roses = []
schemas (more (rose n op ts) rest) = schema_by op (schemas ts) ∷ schemas rest

-- the columns of a plan
abbrev pub schema : {N : Type 0} → Rose N Op → Columns
schema (rose n op ts) = schema_by op (schemas ts)

-- Checks

-- a filter's predicate has a form, reads columns of the input, is Boolean, and is named as it may be
abbrev pub filter_checks : Named → Columns → List Check
filter_checks e s =
    check InvalidOperation 1 (has_form e.expr)
    ∷ check SchemaFieldNotFound 1 (all_known (leaves e.expr) s)
    ∷ check SchemaMismatch 1 (is_type (expr_type e.expr s) types.Boolean)
    ∷ check SchemaMismatch 1 (may_be_named e.name (naming e.expr))
    ∷ []

-- no name comes twice among columns
unfoldable pub differ_checks : Columns → List Check
differ_checks cs = check Duplicate 0 (all_differ (names_of cs)) ∷ []

-- a projection has columns, they are the input's, and no two have one name
abbrev pub projection_checks : Columns → Columns → List Check
projection_checks cs s =
    check InvalidOperation 0 (not (is_empty cs))
    ∷ (each SchemaFieldNotFound 1 (λ (c : Name × DataType). is_known s c.0) cs
    ++ (each SchemaMismatch 1 (is_column s) cs
    ++ differ_checks cs))

-- each column is read
abbrev pub all_read : Option (List Name) → Columns → Bool
all_read told [] = true
all_read told (c ∷ cs) = is_told told c.0 && all_read told cs

-- a name is that of the column that numbers the rows, or is read where it is one of the columns that are read from the files
abbrev pub is_number_or_read : (row : Columns) → Option (List Name) → (plain : Columns) → Name → Bool
is_number_or_read row told plain a = has (names_of row) a || is_read told plain a

-- what a scan puts out has the files' types and is read where the first column of its name is read from the files; a scan that puts out everything reads all that is
unfoldable pub put_out_checks : Option Columns → Option (List Name) → (row plain file : Columns) → List Check
put_out_checks None told row plain file = check SchemaMismatch 0 (all_read told plain) ∷ []
put_out_checks (Some output) told row plain file = each SchemaMismatch 1 (λ (c : Name × DataType). is_column file c && is_number_or_read row told plain c.0) output

-- what a scan puts out are columns of the files, and then what it is told to read are columns that a reader finds
unfoldable pub scan_name_checks : Columns → List Name → (file reader : Columns) → List Check
scan_name_checks outs told file reader =
    each SchemaFieldNotFound 1 (λ (c : Name × DataType). is_known file c.0) outs
    ++ each SchemaFieldNotFound (suc (length outs)) (is_known reader) told

-- the hive parts are alike; what a scan puts out has its type and is read; and what it is told to read are no hive columns
unfoldable pub scan_type_checks : Option Columns → Option (List Name) → Option (List Stats) → (row reader file : Columns) → List Check
scan_type_checks output told hive row reader file =
    check SchemaMismatch 0 (are_alike hive)
    ∷ (put_out_checks output told row (plain_columns reader (hive_columns hive)) file
    ++ each SchemaMismatch (suc (length (columns_or output []))) (λ (a : Name). not (has (names_of (hive_columns hive)) a)) (names_or told []))

-- whether a scan of so many sources has a form that is built: a reader's columns, a hive part for each source where parts are given, and neither a predicate nor a slice
unfoldable pub is_built_scan : ℕ → Option Named → FileInfo → Option (List Stats) → FileScanOptions → Bool
is_built_scan sources predicate info hive options =
    is_some info.reader_schema && is_none predicate && is_none options.slice && are_one_each hive sources

-- the stored columns are those that are computed, and no two have one name
unfoldable pub schema_checks : Columns → Columns → List Check
schema_checks stored computed = check SchemaMismatch 0 (same_columns stored computed && all_differ (names_of computed)) ∷ []

-- what a scan puts out and is told to read are columns of its files, each put out once and read once; its stored columns are those of the files
unfoldable pub scan_column_checks : Option Columns → Option (List Name) → Option (List Stats) → (stored row reader file : Columns) → List Check
scan_column_checks output told hive stored row reader file =
    scan_name_checks (columns_or output []) (names_or told []) file reader
    ++ (scan_type_checks output told hive row reader file
    ++ (differ_checks (columns_or output file)
    ++ (each_new (suc (length (columns_or output []))) [] (names_or told [])
    ++ schema_checks stored file)))

-- a scan of so many sources has a form that is built, and its columns are as they must be
abbrev pub scan_checks : ℕ → Option Named → Option Columns → FileInfo → Option (List Stats) → FileScanOptions → List Check
scan_checks sources predicate output info hive options =
    check InvalidOperation 0 (is_built_scan sources predicate info hive options)
    ∷ scan_column_checks output options.with_columns hive info.schema (row_columns options.row_index) (reader_columns info) (scan_columns info hive options)

-- without a number a frame has no columns
unfoldable pub number_checks : Option ℕ → Columns → List Check
number_checks df schema = check SchemaMismatch 0 (is_some df || is_empty schema) ∷ []

-- what a scan of a frame puts out are columns of the frame, each once; without a number there are none
unfoldable pub frame_checks : Option ℕ → Columns → Option Columns → List Check
frame_checks df schema output =
    each SchemaFieldNotFound 1 (λ (c : Name × DataType). is_known schema c.0) (columns_or output [])
    ++ (number_checks df schema
    ++ (each SchemaMismatch 1 (is_column schema) (columns_or output [])
    ++ differ_checks (columns_or output schema)))

-- expressions have forms, read some columns and have types there, no two have one name, the stored columns are those that they make beside others, and each is named as it may be
unfoldable pub made_checks : Columns → List Named → Columns → Columns → List Check
made_checks base es stored s =
    form_checks es
    ++ (leaf_checks es s
    ++ (type_checks es s
    ++ (once_checks es
    ++ (stored_checks stored (made_schema base es s)
    ++ naming_checks es))))

-- one mark for each of so many keys, or one for all
abbrev pub are_marks : List Bool → ℕ → Bool
are_marks bs n = length bs == 1 || length bs == n

-- whether a sort by so many keys has a form that is built: some keys, marks for them, and neither a slice nor a limit
unfoldable pub is_built_sort : ℕ → Option (ℤ × ℕ) → SortMultipleOptions → Bool
is_built_sort keys part options =
    not (keys == 0) && is_none part && is_none options.limit && are_marks options.descending keys && are_marks options.nulls_last keys

-- the keys of a sort have forms, read columns of the input, have plain types there, and are named as they may be
unfoldable pub key_checks : List Named → Columns → List Check
key_checks keys s =
    form_checks keys
    ++ (leaf_checks keys s
    ++ (plain_checks keys s
    ++ naming_checks keys))

-- whether a grouping has a form that is built: some keys, and no slice
unfoldable pub is_built_group : List Named → GroupbyOptions → Bool
is_built_group keys options = not (is_empty keys) && is_none options.slice

-- the names that are told, if they are, are some
abbrev pub is_some_subset : Option (List Name) → Bool
is_some_subset None = true
is_some_subset (Some names) = not (is_empty names)

-- whether distinct rows have a form that is built: no slice, and a name where names are told
unfoldable pub is_built_distinct : DistinctOptionsIR → Bool
is_built_distinct options = is_none options.slice && is_some_subset options.subset

-- the names that are told are columns of the input
unfoldable pub subset_checks : Option (List Name) → Columns → List Check
subset_checks subset s = each SchemaFieldNotFound 1 (is_known s) (names_or subset [])

-- a renaming has as many new names as old ones, none twice on either side, and gives no two columns one name
unfoldable pub rename_checks : (existing new : List Name) → Columns → List Check
rename_checks existing new s =
    check InvalidOperation 0 (length existing == length new)
    ∷ (each_new 1 [] existing
    ++ (each_new (suc (length existing)) [] new
    ++ (check Duplicate 0 (stay_apart (renamed existing new) (names_of s)) ∷ [])))

-- the column that numbers the rows has a name that no other has
unfoldable pub row_index_checks : Name → Columns → List Check
row_index_checks name s = check Duplicate 0 (not (has (names_of s) name)) ∷ []

-- what an unpivot tells, and then what it repeats, are columns of the input
unfoldable pub unpivot_name_checks : (on index : List Name) → Columns → List Check
unpivot_name_checks on index s =
    each SchemaFieldNotFound 1 (is_known s) on
    ++ each SchemaFieldNotFound (suc (length on)) (is_known s) index

-- what an unpivot tells has this type, and so have all its value columns where it tells none
unfoldable pub unpivot_type_checks : (on names : List Name) → DataType → Columns → List Check
unpivot_type_checks on names t s =
    each SchemaMismatch 1 (λ (a : Name). is_column s (a, t)) on
    ++ check SchemaMismatch 0 (list_all (λ (a : Name). is_column s (a, t)) names) ∷ []

-- an unpivot has value columns, what it names are columns of the input, its value columns have the type of the first, and no two columns that it gives have one name
unfoldable pub unpivot_checks : UnpivotArgsIR → Columns → List Check
unpivot_checks args s =
    let names = value_names args (names_of s) in
    check InvalidOperation 0 (not (is_empty names))
    ∷ (unpivot_name_checks args.on args.index s
    ++ (unpivot_type_checks args.on names (first_type s names) s
    ++ check Duplicate 0 (all_differ (unpivoted_names args)) ∷ []))

-- there is a type, and it is that of lists
abbrev pub is_list_type : Option DataType → Bool
is_list_type None = false
is_list_type (Some t) = not (is_plain t)

-- the columns that are taken apart are the input's, and have lists
unfoldable pub explode_checks : List Name → Columns → List Check
explode_checks names s =
    each SchemaFieldNotFound 1 (is_known s) names
    ++ each SchemaMismatch 1 (λ (a : Name). is_list_type (type_of s a)) names

-- the checks on a function over the columns of its input
abbrev pub function_checks : FunctionIR → Columns → List Check
function_checks (Rename existing new swapping) s = rename_checks existing new s
function_checks (RowIndex name offset) s = row_index_checks name s
function_checks (Unpivot args) s = unpivot_checks args s
function_checks (Explode columns) s = explode_checks columns s
function_checks (FastCount sources scan_type alias) s = []

-- whether a union has a form that is built: some inputs, and no slice
unfoldable pub is_built_union : UnionOptions → List Columns → Bool
is_built_union options ss = not (is_empty ss) && is_none options.slice

-- each input has the columns of the first
unfoldable pub same_checks : List Columns → List Check
same_checks ss = each SchemaMismatch 1 (same_columns (first_schema ss)) ss

-- the checks where a node has no inputs; else one that fails
abbrev pub with_none : List Columns → List Check → List Check
with_none [] cs = cs
with_none (s ∷ ss) cs = check ComputeError 0 false ∷ []

-- the checks on the columns of the one input; else one that fails
abbrev pub with_one : List Columns → (Columns → List Check) → List Check
with_one (s ∷ []) cs = cs s
with_one _ cs = check ComputeError 0 false ∷ []

-- the checks on the columns of the two inputs; else one that fails
abbrev pub with_two : List Columns → (Columns → Columns → List Check) → List Check
with_two (s ∷ t ∷ []) cs = cs s t
with_two _ cs = check ComputeError 0 false ∷ []

-- the checks on a node over the columns of its inputs
abbrev pub checks : Op → List Columns → List Check
checks (slice offset len) ss = with_one ss (λ s. [])
checks (filter predicate) ss = with_one ss (filter_checks predicate)
checks (scan sources info hive predicate output kind options) ss = with_none ss (scan_checks (length (sources_of sources)) predicate output info hive options)
checks (frame_scan df schema output) ss = with_none ss (frame_checks df schema output)
checks (simple_projection columns) ss = with_one ss (projection_checks columns)
checks (select exprs schema options) ss = with_one ss (λ s. check InvalidOperation 0 (not (is_empty exprs)) ∷ made_checks [] exprs schema s)
checks (hstack exprs schema options) ss = with_one ss (λ s. made_checks s exprs schema s)
checks (sort keys part options) ss = with_one ss (λ s. check InvalidOperation 0 (is_built_sort (length keys) part options) ∷ key_checks keys s)
checks (group_by keys aggs schema ordered options) ss = with_one ss (λ s. check InvalidOperation 0 (is_built_group keys options) ∷ made_checks [] (group_exprs keys aggs) schema s)
checks (join left_on right_on schema told) ss = with_two ss (join_checks left_on right_on schema told)
checks (distinct options) ss = with_one ss (λ s. check InvalidOperation 0 (is_built_distinct options) ∷ subset_checks options.subset s)
checks (map_function function) ss = with_one ss (function_checks function)
checks (sink payload) ss = with_one ss (λ s. [])
checks (union options) ss = check InvalidOperation 0 (is_built_union options ss) ∷ same_checks ss
checks (hconcat schema options) ss = check InvalidOperation 0 (not (is_empty ss)) ∷ check Duplicate 0 (are_apart ss) ∷ stored_checks schema (side_by_side ss)
checks (cache id hits) ss = with_one ss (λ s. [])
checks invalid ss = check ComputeError 0 false ∷ []

-- all checks hold
abbrev pub AllHold : List Check → Type 0
AllHold [] = Unit {0}
AllHold (c ∷ cs) = (c.holds ≡ true) × AllHold cs

-- all checks hold at all nodes
abbrev pub AllValid : {N : Type 0} → Roses N Op → Type 0
AllValid no_roses = Unit {0}
AllValid (more (rose n op ts) rest) = AllHold (checks op (schemas ts)) × AllValid ts × AllValid rest

-- a place of a node; a place above the last one that can be said is said as that
abbrev pub at : Node → ℕ → At
at n place = record { node = Some n; place = min place 4294967295 }

-- the fault of the first check that doesn't hold
abbrev pub first_fault : Node → List Check → Option PolarsError
first_fault n [] = None
first_fault n (c ∷ cs) = if c.holds then first_fault n cs else Some (c.fault (at n c.place))

-- the first of two faults
abbrev pub or_fault : Option PolarsError → Option PolarsError → Option PolarsError
or_fault None e = e
or_fault (Some f) e = Some f

-- the first fault among the nodes: the inputs of a node before it, from first to last
abbrev pub faults : Roses Node Op → Option PolarsError
faults no_roses = None
faults (more (rose n op ts) rest) = or_fault (or_fault (faults ts) (first_fault n (checks op (schemas ts)))) (faults rest)

-- the answer names this fault, or there is none and it is Ok; want of memory says nothing
abbrev pub Says : {A : Type 0} → Result A PolarsError → Option PolarsError → Type 0
Says (Ok x) fault = fault ≡ None
Says (Err OutOfMemory) fault = Unit {0}
Says (Err (SchemaFieldNotFound a)) fault = fault ≡ Some (SchemaFieldNotFound a)
Says (Err (Duplicate a)) fault = fault ≡ Some (Duplicate a)
Says (Err (SchemaMismatch a)) fault = fault ≡ Some (SchemaMismatch a)
Says (Err (InvalidOperation a)) fault = fault ≡ Some (InvalidOperation a)
Says (Err (ComputeError a)) fault = fault ≡ Some (ComputeError a)

-- the answer is the columns that expressions make over some, beside others, or the first fault of the checks on them
abbrev pub IsMade : Result Columns PolarsError → Node → Columns → List Named → Columns → Columns → Type 0
IsMade (Ok t) n base es stored s = (first_fault n (made_checks base es stored s) ≡ None) × (t ≡ made_schema base es s)
IsMade (Err e) n base es stored s = Says {A = Columns} (Err e) (first_fault n (made_checks base es stored s))
