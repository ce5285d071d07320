-- What pruning makes of a plan. Names are asked of a node, and it asks names of its inputs; no names stand for every column.
use Rattle.std.specs.Prelude.{Bool, true, false, not, ◌&&◌, List, [], ◌∷◌, ◌++◌, map, Option, None, Some, option_map, filter as filter_list}
use Rattle.std.specs.List.{filter_map}
use Rattle.plan_core.specs.Columns.{Columns, names_of, type_of, with_types}
use Rattle.plan_core.specs.Names.{has, with_names}
use Rattle.plan_core.specs.declared.data_type.DataType.{DataType}
use Rattle.plan_core.specs.declared.options.FileScanOptions.{FileScanOptions}
use Rattle.plan_tree.specs.Rose.{Roses, rose, no_roses, more}
use Rattle.plan_files.specs.FileColumns.{hive_columns, read_names}
use Rattle.plan_files.specs.FileReads.{left_names as file_names}
use Rattle.plan_file_scan.specs.Left.{columns_left, in_file_order, left_options, left_output, left_parts}
use Rattle.plan_ir.specs.declared.scan.FileInfo.{FileInfo}
use Rattle.plan_scan.specs.Stats.{Stats}
use Rattle.plan_scan.specs.declared.file_scan.FileScan.{FileScan}
use Rattle.plan_scan.specs.declared.sources.ScanSources.{ScanSources}
use Rattle.plan_expr.specs.Exprs.{Named}
use Rattle.plan_ir.specs.Plans.{Op, slice, filter, scan, frame_scan, simple_projection, select, hstack, sort, group_by, join, distinct, map_function, sink, union, hconcat, cache, invalid, Plan}
use Rattle.plan_core.specs.declared.options.ProjectionOptions.{ProjectionOptions}
use Rattle.plan_options.specs.declared.group.GroupbyOptions.{GroupbyOptions}
use Rattle.plan_options.specs.declared.union.HConcatOptions.{HConcatOptions}
use Rattle.plan_expr.specs.Leaves.{Name, leaves}
use Rattle.plan_meaning.specs.Typing.{first_schema, reader_columns, rest_schemas}
use Rattle.plan_meaning.specs.JoinAsked.{left_names, right_names}
use Rattle.plan_pruned.specs.JoinPruned.{pruned_join}
use Rattle.plan_frame.specs.Frames.{names_or}
use Rattle.plan_frame.specs.ExprLists.{out_names, all_leaves}
use Rattle.plan_frame.specs.Beside.{side_by_side}
use Rattle.plan_meaning.specs.PlanAt.{one_plan}
use Rattle.plan_meaning.specs.Relating.{names as these}
use Rattle.plan_meaning.specs.Counting.{is_closed, is_count, meets_count, stand_ins, first_stand_in}
use Rattle.plan_ir.specs.declared.functions.FunctionIR.{FunctionIR}
use Rattle.plan_meaning.specs.Asked.{function_names, set_of, kept_exprs, selected_exprs, needed_names, grouping_names}
use Rattle.plan_schema.specs.Stored.{stored_all}

-- the asked names with more, each last unless it is there; asked nothing, nothing
abbrev pub asked_with : List Name → List Name → List Name
asked_with [] names = []
asked_with (a ∷ asked) names = with_names (a ∷ asked) names

-- the asked columns, in their own order; asked nothing, all
abbrev pub kept : List Name → Columns → Columns
kept [] cs = cs
kept (a ∷ asked) cs = filter_list (λ (c : Name × DataType). has (a ∷ asked) c.0) cs

-- a name with its type among the columns, if it is there
abbrev pub typed_name : Columns → Name → Option (Name × DataType)
typed_name cs a = option_map (λ d. (a, d)) (type_of cs a)

-- the names with their types among the columns, in order; a name that isn't there is left out
abbrev pub typed_names : Columns → List Name → Columns
typed_names cs names = filter_map (typed_name cs) names

-- the asked names with their types among the columns; none where nothing is asked
abbrev pub asked_columns : List Name → Columns → Option Columns
asked_columns [] cs = None
asked_columns (a ∷ asked) cs = Some (typed_names cs (a ∷ asked))

-- a plan with a projection on top, or without
abbrev pub projected : Bool → Columns → Plan → Plan
projected true columns plan = rose tt (simple_projection columns) (more plan no_roses)
projected false columns plan = plan

-- a plan with a projection to columns on top, where there are columns
abbrev pub projected_to : Option Columns → Plan → Plan
projected_to None plan = plan
projected_to (Some columns) plan = rose tt (simple_projection columns) (more plan no_roses)

-- a plan with a projection to the asked names on top; asked nothing, it stays
abbrev pub covered : List Name → Plan → Plan
covered asked plan = projected_to (asked_columns asked (first_schema (stored_all (more plan no_roses)))) plan

-- each of some plans so
abbrev pub covered_each : List Name → Roses (Unit {0}) Op → Roses (Unit {0}) Op
covered_each asked no_roses = no_roses
covered_each asked (more plan plans) = more (covered asked plan) (covered_each asked plans)

-- each of some plans so, or none
abbrev pub covered_if : Bool → List Name → Roses (Unit {0}) Op → Roses (Unit {0}) Op
covered_if true asked plans = covered_each asked plans
covered_if false asked plans = plans

-- there is more than one plan
abbrev pub are_several : {N : Type 0} → Roses N Op → Bool
are_several no_roses = false
are_several (more plan no_roses) = false
are_several (more plan (more other plans)) = true

-- what a scan that is asked these names reads
abbrev pub reads_left : List Name → FileInfo → Option (List Stats) → FileScan → FileScanOptions → List Name
reads_left wanted info hive kind options =
    file_names kind wanted (read_names options.with_columns (reader_columns info) (hive_columns hive)) (hive_columns hive) options

-- the columns that a scan which is asked these names can put out, of each name the first
abbrev pub scan_columns_left : List Name → FileInfo → Option (List Stats) → FileScan → FileScanOptions → Columns
scan_columns_left wanted info hive kind options = side_by_side (columns_left wanted (reads_left wanted info hive kind options) (reader_columns info) hive options ∷ [])

-- what is left of a scan that is asked these names
abbrev pub left_scan : List Name → ScanSources → FileInfo → Option (List Stats) → Option Named → FileScan → FileScanOptions → Op
left_scan wanted sources info hive predicate kind options =
    let file = scan_columns_left wanted info hive kind options in
    scan sources (record info { schema = file }) (left_parts wanted hive) predicate
    (Some (left_output (in_file_order kind hive options) options.include_file_paths wanted file)) kind (left_options wanted (reads_left wanted info hive kind options) options)

-- what is left of a scan that is asked names, with a projection to them on top or without; asked nothing, it stays
abbrev pub pruned_scan : Bool → List Name → ScanSources → FileInfo → Option (List Stats) → Option Named → Option Columns → FileScan → FileScanOptions → Roses (Unit {0}) Op → Plan
pruned_scan top [] sources info hive predicate output kind options inputs = rose tt (scan sources info hive predicate output kind options) inputs
pruned_scan top (a ∷ asked) sources info hive predicate output kind options inputs =
    projected top (typed_names (scan_columns_left (a ∷ asked) info hive kind options) (a ∷ asked)) (rose tt (left_scan (a ∷ asked) sources info hive predicate kind options) inputs)

-- what a scan of a frame puts out where names are asked; asked nothing, what it put out
abbrev pub pruned_output : List Name → Columns → Option Columns → Option Columns
pruned_output [] schema output = output
pruned_output (a ∷ asked) schema output = Some (typed_names schema (a ∷ asked))

-- what an addition asks that keeps these expressions; the columns are its input's
abbrev pub added_names : List Name → List Named → Columns → List Name
added_names asked [] s = asked
added_names asked (e ∷ es) s = with_names (filter_list (has (names_of s)) asked) (all_leaves (e ∷ es))

-- what an addition asks
abbrev pub stacked_names : List Name → List Named → Columns → List Name
stacked_names [] es s = []
stacked_names (a ∷ asked) es s = added_names (a ∷ asked) (kept_exprs (these (a ∷ asked)) es) s

-- a selection of the expressions that it keeps; asked nothing, it stays
abbrev pub pruned_select : List Name → List Named → Columns → ProjectionOptions → Roses (Unit {0}) Op → Plan
pruned_select [] es schema options inputs = rose tt (select es schema options) inputs
pruned_select (a ∷ asked) es schema options inputs =
    let ks = selected_exprs (these (a ∷ asked)) es in
    rose tt (select ks (with_types [] (typed_names schema (out_names ks))) options) inputs

-- an addition of these expressions; without any its input takes its place
abbrev pub stacked : List Named → Columns → ProjectionOptions → Roses (Unit {0}) Op → Plan
stacked [] schema options inputs = one_plan inputs
stacked (e ∷ es) schema options inputs =
    rose tt (hstack (e ∷ es) (with_types (first_schema (stored_all inputs)) (typed_names schema (out_names (e ∷ es)))) options) inputs

-- an addition of the expressions that it keeps; asked nothing, it stays
abbrev pub pruned_hstack : List Name → List Named → Columns → ProjectionOptions → Roses (Unit {0}) Op → Plan
pruned_hstack [] es schema options inputs = rose tt (hstack es schema options) inputs
pruned_hstack (a ∷ asked) es schema options inputs = stacked (kept_exprs (these (a ∷ asked)) es) schema options inputs

-- a grouping of its keys and of the aggregates that it keeps; asked nothing, it stays
abbrev pub pruned_group_by : List Name → (keys aggs : List Named) → Columns → Bool → GroupbyOptions → Roses (Unit {0}) Op → Plan
pruned_group_by [] keys aggs schema ordered options inputs = rose tt (group_by keys aggs schema ordered options) inputs
pruned_group_by (a ∷ asked) keys aggs schema ordered options inputs =
    let kept = kept_exprs (these (a ∷ asked)) aggs in
    rose tt (group_by keys kept (with_types [] (typed_names schema (out_names (keys ++ kept)))) ordered options) inputs

-- a concatenation with the columns of its inputs; asked nothing, it stays
abbrev pub pruned_hconcat : List Name → Columns → HConcatOptions → Roses (Unit {0}) Op → Plan
pruned_hconcat [] schema options inputs = rose tt (hconcat schema options) inputs
pruned_hconcat (a ∷ asked) schema options inputs = rose tt (hconcat (side_by_side (stored_all inputs)) options) inputs

-- what a concatenation asks an input with these columns: the asked names that it has
abbrev pub held_names : List Name → Columns → List Name
held_names asked s = filter_list (has (names_of s)) asked

-- what a function asks: asked something, the names that it needs; asked nothing, nothing
abbrev pub mapped_names : List Name → FunctionIR → Columns → List Name
mapped_names [] function s = []
mapped_names (a ∷ asked) function s = function_names function (a ∷ asked) s

-- the same names for each of some inputs
abbrev pub names_alike : {A : Type 0} → List Name → List A → List (List Name)
names_alike names [] = []
names_alike names (x ∷ xs) = names ∷ names_alike names xs

-- the first of some lists of names; no names where there is none
abbrev pub first_names : List (List Name) → List Name
first_names [] = []
first_names (names ∷ lists) = names

-- the lists of names after the first
abbrev pub rest_names : List (List Name) → List (List Name)
rest_names [] = []
rest_names (names ∷ lists) = lists

-- what a node that is asked names asks each of its inputs, by the columns that these say they have and those that stand in for their rows
abbrev pub asks : List Name → Op → List Columns → List (Option Name) → List (List Name)
asks asked (slice offset len) ss os = asked ∷ []
asks asked (filter predicate) ss os = asked_with asked (leaves predicate.expr) ∷ []
asks asked (scan sources info hive predicate output kind options) ss os = []
asks asked (frame_scan df schema output) ss os = []
asks asked (select exprs schema options) ss os = needed_names exprs (first_stand_in os) (selected_exprs (set_of asked) exprs) ∷ []
asks asked (hstack exprs schema options) ss os = stacked_names asked exprs (first_schema ss) ∷ []
asks asked (simple_projection columns) ss os = with_names [] (names_of (kept asked columns)) ∷ []
asks asked (sort keys part options) ss os = asked_with asked (all_leaves keys) ∷ []
asks asked (group_by keys aggs schema ordered options) ss os = grouping_names keys (kept_exprs (set_of asked) aggs) asked (first_schema ss) ∷ []
asks asked (join left_on right_on schema told) ss os =
    left_names asked left_on right_on told (first_schema ss) (first_schema (rest_schemas ss))
    ∷ right_names asked left_on right_on told (first_schema ss) (first_schema (rest_schemas ss))
    ∷ []
asks asked (distinct options) ss os = asked_with asked (names_or options.subset (names_of (first_schema ss))) ∷ []
asks asked (map_function function) ss os = mapped_names asked function (first_schema ss) ∷ []
asks asked (sink payload) ss os = asked ∷ []
asks asked (union options) ss os = names_alike asked ss
asks asked (hconcat schema options) ss os = map (held_names asked) ss
asks asked (cache id hits) ss os = [] ∷ []
asks asked invalid ss os = []

-- a node that is asked names, by the columns that its inputs said they had, over its pruned inputs
abbrev pub rebuilt : Bool → List Name → Op → List Columns → Roses (Unit {0}) Op → Plan
rebuilt top asked (slice offset len) ss inputs = rose tt (slice offset len) inputs
rebuilt top asked (filter predicate) ss inputs = rose tt (filter predicate) inputs
rebuilt top asked (scan sources info hive predicate output kind options) ss inputs = pruned_scan top asked sources info hive predicate output kind options inputs
rebuilt top asked (frame_scan df schema output) ss inputs = rose tt (frame_scan df schema (pruned_output asked schema output)) inputs
rebuilt top asked (select exprs schema options) ss inputs = pruned_select asked exprs schema options inputs
rebuilt top asked (hstack exprs schema options) ss inputs = pruned_hstack asked exprs schema options inputs
rebuilt top asked (simple_projection columns) ss inputs = rose tt (simple_projection (kept asked columns)) inputs
rebuilt top asked (sort keys part options) ss inputs = rose tt (sort keys part options) inputs
rebuilt top asked (group_by keys aggs schema ordered options) ss inputs = pruned_group_by asked keys aggs schema ordered options inputs
rebuilt top asked (join left_on right_on schema told) ss inputs = pruned_join asked left_on right_on schema told (first_schema ss) (first_schema (rest_schemas ss)) inputs
rebuilt top asked (distinct options) ss inputs = rose tt (distinct options) inputs
rebuilt top asked (map_function function) ss inputs = rose tt (map_function function) inputs
rebuilt top asked (sink payload) ss inputs = rose tt (sink payload) inputs
rebuilt top asked (union options) ss inputs = rose tt (union options) (covered_if (are_several inputs) asked inputs)
rebuilt top asked (hconcat schema options) ss inputs = pruned_hconcat asked schema options inputs
rebuilt top asked (cache id hits) ss inputs = covered asked (rose tt (cache id hits) inputs)
rebuilt top asked invalid ss inputs = rose tt invalid inputs

-- what a node asks of each of its plans
abbrev pub asks_plans : {N : Type 0} → List Name → Op → Roses N Op → List (List Name)
asks_plans asked op ts = asks asked op (stored_all ts) (stand_ins ts (stored_all ts))

-- whether projections go on top below a node: below a count of rows they don't
abbrev pub top_below : Bool → Op → Bool
top_below top op = top && not (is_count op)

-- whether projections go on top after a plan: once rows are counted they don't
abbrev pub top_after : Bool → Plan → Bool
top_after top plan = top && not (meets_count plan)

-- the inputs of a node as they are pruned; below a closed node as they are
abbrev pub left_below : Bool → Roses (Unit {0}) Op → Roses (Unit {0}) Op → Roses (Unit {0}) Op
left_below true inputs others = inputs
left_below false inputs others = others

-- a plan pruned to the asked names, and plans each to a list of its own, with projections on top of their scans or without; from the first count of rows on, in the order of plans and their inputs, without
abbrev mutual
  pub pruned : Bool → List Name → Plan → Plan
  pruned top asked (rose n op inputs) = rebuilt top asked op (stored_all inputs) (left_below (is_closed op) inputs (pruned_all (top_below top op) (asks_plans asked op inputs) inputs))

  pub pruned_all : Bool → List (List Name) → Roses (Unit {0}) Op → Roses (Unit {0}) Op
  pruned_all top lists no_roses = no_roses
  pruned_all top lists (more plan plans) = more (pruned top (first_names lists) plan) (pruned_all (top_after top plan) (rest_names lists) plans)
