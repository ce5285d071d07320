-- What pruning makes of plans is read again of what is written for it, but for their columns.
use Rattle.std.proofs.Common.{Bool, true, false, List, [], ◌∷◌, Option, Some, None}
use Rattle.std.specs.List.{AllByRecursion}
use Rattle.plan_core.specs.Columns.{Columns}
use Rattle.plan_core.specs.declared.options.FileScanOptions.{FileScanOptions}
use Rattle.plan_core.specs.declared.options.ProjectionOptions.{ProjectionOptions}
use Rattle.plan_options.specs.declared.group.GroupbyOptions.{GroupbyOptions}
use Rattle.plan_options.specs.declared.union.HConcatOptions.{HConcatOptions}
use Rattle.plan_tree.specs.Rose.{Roses, rose, no_roses, more}
use Rattle.plan_expr.specs.Exprs.{Named}
use Rattle.plan_expr.specs.Leaves.{Name}
use Rattle.plan_ir.specs.Plans.{Op, Plan, cache, distinct, filter, frame_scan, group_by, hconcat, hstack, invalid, join, map_function, scan, select, simple_projection, sink, slice, sort, union}
use Rattle.plan_ir.specs.declared.scan.FileInfo.{FileInfo}
use Rattle.plan_scan.specs.Stats.{Stats}
use Rattle.plan_scan.specs.declared.file_scan.FileScan.{FileScan}
use Rattle.plan_scan.specs.declared.sources.ScanSources.{ScanSources}
use Rattle.plan_meaning.specs.Counting.{is_closed}
use Rattle.plan_meaning.specs.Relating.{names as these}
use Rattle.plan_meaning.specs.Asked.{kept_exprs}
use Rattle.plan_meaning.specs.Typing.{first_schema, rest_schemas}
use Rattle.plan_meaning.proofs.KeptExprs.{all_kept_exprs, all_selected}
use Rattle.plan_schema.specs.Stored.{stored_all}
use Rattle.plan_pruned.specs.Pruned.{are_several, asked_columns, asks_plans, covered, covered_each, covered_if, first_names, left_below, projected, projected_to, pruned, pruned_all, pruned_group_by, pruned_hconcat, pruned_hstack, pruned_scan, pruned_select, reads_left, rebuilt, rest_names, scan_columns_left, stacked, top_after, top_below, typed_names}
use Rattle.plan_round_trip.proofs.Renumbered.{NamedTold}
use Rattle.plan_round_trip.proofs.ListedJoins.{join_told}
use Rattle.plan_round_trip.proofs.ListedParts.{RestTold}
use Rattle.plan_round_trip.proofs.ListedScans.{hive_left, reading_left}
use Rattle.plan_round_trip.proofs.ListedTrees.{AreTold, IsTold, first_told, one_more, one_told, rest_told}

-- ---- projections on top

projected_told : (top : Bool) (columns : Columns) (plan : Plan) → IsTold plan → IsTold (projected top columns plan)
projected_told true columns plan t = (tt, one_more plan no_roses t tt)
projected_told false columns plan t = t

to_told : (columns : Option Columns) (plan : Plan) → IsTold plan → IsTold (projected_to columns plan)
to_told None plan t = t
to_told (Some columns) plan t = (tt, one_more plan no_roses t tt)

covered_told : (asked : List Name) (plan : Plan) → IsTold plan → IsTold (covered asked plan)
covered_told asked plan t = to_told (asked_columns asked (first_schema (stored_all (more plan no_roses)))) plan t

each_told : (asked : List Name) (plans : Roses (Unit {0}) Op) → AreTold plans → AreTold (covered_each asked plans)
each_told asked no_roses a = tt
each_told asked (more plan plans) a = one_more (covered asked plan) (covered_each asked plans) (covered_told asked plan (first_told plan plans a)) (each_told asked plans (rest_told plan plans a))

if_told : (several : Bool) (asked : List Name) (plans : Roses (Unit {0}) Op) → AreTold plans → AreTold (covered_if several asked plans)
if_told true asked plans a = each_told asked plans a
if_told false asked plans a = a

-- ---- nodes over pruned inputs

scan_told : (top : Bool) (asked : List Name) (from : ScanSources) (info : FileInfo) (hive : Option (List Stats)) (predicate : Option Named) (output : Option Columns) (kind : FileScan) (options : FileScanOptions) (inputs : Roses (Unit {0}) Op) → RestTold (scan from info hive predicate output kind options) → AreTold inputs → IsTold (pruned_scan top asked from info hive predicate output kind options inputs)
scan_told top [] from info hive predicate output kind options inputs r a = (r, a)
scan_told top (b ∷ asked) from info hive predicate output kind options inputs r a =
    projected_told top (typed_names (scan_columns_left (b ∷ asked) info hive kind options) (b ∷ asked)) _
    ((r.0, r.1, hive_left (b ∷ asked) hive r.2, reading_left (b ∷ asked) (reads_left (b ∷ asked) info hive kind options) options r.3, r.4), a)

select_told : (asked : List Name) (es : List Named) (schema : Columns) (options : ProjectionOptions) (inputs : Roses (Unit {0}) Op) → AllByRecursion NamedTold es → AreTold inputs → IsTold (pruned_select asked es schema options inputs)
select_told [] es schema options inputs r a = (r, a)
select_told (b ∷ asked) es schema options inputs r a = (all_selected NamedTold (these (b ∷ asked)) es r, a)

stacked_told : (es : List Named) (schema : Columns) (options : ProjectionOptions) (inputs : Roses (Unit {0}) Op) → AllByRecursion NamedTold es → AreTold inputs → IsTold (stacked es schema options inputs)
stacked_told [] schema options inputs r a = one_told inputs a
stacked_told (e ∷ es) schema options inputs r a = (r, a)

hstack_told : (asked : List Name) (es : List Named) (schema : Columns) (options : ProjectionOptions) (inputs : Roses (Unit {0}) Op) → AllByRecursion NamedTold es → AreTold inputs → IsTold (pruned_hstack asked es schema options inputs)
hstack_told [] es schema options inputs r a = (r, a)
hstack_told (b ∷ asked) es schema options inputs r a = stacked_told (kept_exprs (these (b ∷ asked)) es) schema options inputs (all_kept_exprs NamedTold (these (b ∷ asked)) es r) a

group_told : (asked : List Name) (keys aggs : List Named) (schema : Columns) (ordered : Bool) (options : GroupbyOptions) (inputs : Roses (Unit {0}) Op) → RestTold (group_by keys aggs schema ordered options) → AreTold inputs → IsTold (pruned_group_by asked keys aggs schema ordered options inputs)
group_told [] keys aggs schema ordered options inputs r a = (r, a)
group_told (b ∷ asked) keys aggs schema ordered options inputs r a = ((r.0, all_kept_exprs NamedTold (these (b ∷ asked)) aggs r.1, r.2), a)

beside_told : (asked : List Name) (schema : Columns) (options : HConcatOptions) (inputs : Roses (Unit {0}) Op) → AreTold inputs → IsTold (pruned_hconcat asked schema options inputs)
beside_told [] schema options inputs a = (tt, a)
beside_told (b ∷ asked) schema options inputs a = (tt, a)

rebuilt_told : (top : Bool) (asked : List Name) (op : Op) (ss : List Columns) (inputs : Roses (Unit {0}) Op) → RestTold op → AreTold inputs → IsTold (rebuilt top asked op ss inputs)
rebuilt_told top asked (slice offset count) ss inputs r a = (r, a)
rebuilt_told top asked (filter predicate) ss inputs r a = (r, a)
rebuilt_told top asked (scan from info hive predicate output kind options) ss inputs r a = scan_told top asked from info hive predicate output kind options inputs r a
rebuilt_told top asked (frame_scan df schema output) ss inputs r a = (r, a)
rebuilt_told top asked (select own schema options) ss inputs r a = select_told asked own schema options inputs r a
rebuilt_told top asked (hstack own schema options) ss inputs r a = hstack_told asked own schema options inputs r a
rebuilt_told top asked (simple_projection columns) ss inputs r a = (tt, a)
rebuilt_told top asked (sort keys cut options) ss inputs r a = (r, a)
rebuilt_told top asked (group_by keys aggs schema ordered options) ss inputs r a = group_told asked keys aggs schema ordered options inputs r a
rebuilt_told top asked (join left_on right_on schema told) ss inputs r a = join_told asked left_on right_on schema told (first_schema ss) (first_schema (rest_schemas ss)) inputs r a
rebuilt_told top asked (distinct options) ss inputs r a = (r, a)
rebuilt_told top asked (map_function function) ss inputs r a = (r, a)
rebuilt_told top asked (sink payload) ss inputs r a = (tt, a)
rebuilt_told top asked (union options) ss inputs r a = (r, if_told (are_several inputs) asked inputs a)
rebuilt_told top asked (hconcat schema options) ss inputs r a = beside_told asked schema options inputs a
rebuilt_told top asked (cache id hits) ss inputs r a = covered_told asked (rose tt (cache id hits) inputs) (r, a)
rebuilt_told top asked invalid ss inputs r a = (tt, a)

-- ---- plans

below_told : (closed : Bool) (inputs others : Roses (Unit {0}) Op) → AreTold inputs → AreTold others → AreTold (left_below closed inputs others)
below_told true inputs others a b = a
below_told false inputs others a b = b

mutual
  pub pruned_told : (top : Bool) (asked : List Name) (plan : Plan) → IsTold plan → IsTold (pruned top asked plan)
  pruned_told top asked (rose n op inputs) t =
      let below = pruned_all (top_below top op) (asks_plans asked op inputs) inputs in
      rebuilt_told top asked op (stored_all inputs) (left_below (is_closed op) inputs below) t.0
      (below_told (is_closed op) inputs below t.1 (all_pruned_told (top_below top op) (asks_plans asked op inputs) inputs t.1))

  pub all_pruned_told : (top : Bool) (lists : List (List Name)) (plans : Roses (Unit {0}) Op) → AreTold plans → AreTold (pruned_all top lists plans)
  all_pruned_told top lists no_roses a = tt
  all_pruned_told top lists (more plan plans) a =
      one_more (pruned top (first_names lists) plan) (pruned_all (top_after top plan) (rest_names lists) plans)
      (pruned_told top (first_names lists) plan (first_told plan plans a))
      (all_pruned_told (top_after top plan) (rest_names lists) plans (rest_told plan plans a))
