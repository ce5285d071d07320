-- A pruned plan narrows: one case for each kind of node, and one induction.
use Rattle.std.proofs.Common.{◌≡◌, ℕ, ℤ, Bool, true, false, List, [], ◌∷◌, ◌++◌, map, Option, Some, refl, sym, ap, ◌∙◌, subst}
use Rattle.plan_core.specs.declared.options.FileScanOptions.{FileScanOptions}
use Rattle.plan_core.specs.declared.options.ProjectionOptions.{ProjectionOptions}
use Rattle.plan_options.specs.declared.distinct.DistinctOptionsIR.{DistinctOptionsIR}
use Rattle.plan_options.specs.declared.group.GroupbyOptions.{GroupbyOptions}
use Rattle.plan_options.specs.declared.sink.SinkType.{SinkType}
use Rattle.plan_options.specs.declared.sort.SortMultipleOptions.{SortMultipleOptions}
use Rattle.plan_core.specs.Columns.{Columns, names_of, with_types}
use Rattle.plan_core.specs.Names.{with_names}
use Rattle.plan_tree.specs.Rose.{Roses, rose, no_roses, more}
use Rattle.plan_ir.specs.declared.scan.FileInfo.{FileInfo}
use Rattle.plan_scan.specs.Stats.{Stats}
use Rattle.plan_scan.specs.declared.file_scan.FileScan.{FileScan}
use Rattle.plan_scan.specs.declared.sources.ScanSources.{ScanSources}
use Rattle.plan_expr.specs.Exprs.{Named}
use Rattle.plan_ir.specs.declared.functions.FunctionIR.{FunctionIR}
use Rattle.plan_ir.specs.Plans.{Op, slice, filter, scan, frame_scan, simple_projection, select, hstack, sort, group_by, join, distinct, map_function, sink, union, hconcat, cache, invalid, Plan}
use Rattle.plan_meaning.specs.Typing.{columns_or, scan_columns, first_schema, rest_schemas, schema_by, schema, schemas, checks, AllHold, AllValid}
use Rattle.plan_frame.specs.Frames.{names_or, Agree}
use Rattle.plan_frame.specs.ExprLists.{out_names, all_leaves}
use Rattle.plan_frame.specs.Made.{made_schema, made}
use Rattle.plan_meaning.specs.Functions.{function_schema}
use Rattle.plan_frame.specs.Grouping.{group_exprs}
use Rattle.plan_meaning.specs.Steps.{IsValid}
use Rattle.plan_meaning.specs.Relating.{Refines, Asked, all, names, NarrowColumns, AgreeOn, Narrows}
use Rattle.plan_meaning.specs.Asked.{set_of, kept_exprs, selected_exprs, needed_names, grouping_names, asks_added, Fair, IsFair}
use Rattle.plan_meaning.specs.Asked as asked
use Rattle.plan_meaning.specs.Counting.{is_closed, stand_ins, first_stand_in}
use Rattle.plan_meaning.proofs.Refining.{relates_refines}
use Rattle.plan_meaning.proofs.Related.{SchemasRelated, AllRelate, relates_node, relates_top, relates_drop}
use Rattle.plan_meaning.proofs.Fairness.{FairAll}
use Rattle.plan_meaning.proofs.KeptExprs.{selected-all}
use Rattle.plan_expr.specs.Leaves.{Name, leaves}
use Rattle.plan_join.specs.Told.{Told}
use Rattle.plan_meaning.specs.JoinAsked.{left_names, right_names}
use Rattle.plan_pruned.specs.JoinPruned.{pruned_join}
use Rattle.plan_pruned.proofs.JoinNarrows.{join_narrows}
use Rattle.plan_pruned.specs.Pruned.{asked_with, kept, pruned_output, typed_names, scan_columns_left, left_scan, projected, stacked_names, mapped_names, held_names, pruned_select, pruned_group_by, stacked, pruned_hstack, asks_plans, left_below, rebuilt, top_below, top_after, pruned, pruned_all}
use Rattle.plan_schema.specs.Stored.{stored_all}
use Rattle.plan_pruned.proofs.AskedNames.{set_some, kept-is, more-is, stacked_asks, function_asks, sets_of, stored_each, fair_each}
use Rattle.plan_pruned.proofs.NarrowLemmas.{Local, same_one, same_none, local_filter, local_slice}
use Rattle.plan_pruned.proofs.MadeNarrows.{SameLeaves, none_selected, needed_types, needed_frames}
use Rattle.plan_pruned.proofs.CoverNarrows.{narrows_self, covered_narrows}
use Rattle.plan_pruned.proofs.UnionNarrows.{union_narrows}
use Rattle.plan_pruned.proofs.GroupNarrows.{local_grouped, whole_grouped}
use Rattle.plan_pruned.proofs.BesideNarrows.{hconcat_narrows}
use Rattle.plan_pruned.proofs.OrderNarrows.{local_sort, local_distinct, local_sink}
use Rattle.plan_pruned.proofs.FunctionNarrows.{local_function}
use Rattle.plan_pruned.proofs.SelectNarrows.{local_selected, whole_selected}
use Rattle.plan_pruned.proofs.StackNarrows.{dropped_holds, dropped_agrees, local_added}
use Rattle.plan_schema.proofs.StoredLemmas.{stored-schemas}
use Rattle.plan_pruned.proofs.FrameNarrows.{local_frame}
use Rattle.plan_pruned.proofs.ProjectionNarrows.{local_columns, asked_some}
use Rattle.plan_pruned.proofs.ScanNarrows.{local_scan, top_good, top_holds, top_agrees}

abbrev pub NarrowSchemas : List Asked → List Columns → List Columns → Type 0
NarrowSchemas = SchemasRelated Asked NarrowColumns AgreeOn

-- plans narrow others, one for one
abbrev pub AllNarrow : List Asked → Roses (Unit {0}) Op → Roses (Unit {0}) Op → Type 0
AllNarrow = AllRelate Asked NarrowColumns AgreeOn

one_here : (o op : Op) (a b : Asked) (s : Columns) (rs : List Columns) → NarrowSchemas (a ∷ []) rs (s ∷ []) → ((r : Columns) → NarrowColumns a r s → Local o op (a ∷ []) b (r ∷ []) (s ∷ [])) → Local o op (a ∷ []) b rs (s ∷ [])
one_here o op a b s (r ∷ []) h by = by r h.0
one_here o op a b s [] h by = absurd h
one_here o op a b s (r ∷ r' ∷ rs) h by = absurd h.1

none_here : (o op : Op) (b : Asked) (rs : List Columns) → NarrowSchemas [] rs [] → Local o op [] b [] [] → Local o op [] b rs []
none_here o op b [] h l = l
none_here o op b (r ∷ rs) h l = absurd h

-- one node over one input

one_narrows : (o op : Op) (a b : Asked) (rs : Roses (Unit {0}) Op) (t : Plan) (s : Columns) → schemas (more t no_roses) ≡ s ∷ [] → IsValid (rose tt op (more t no_roses)) → AllNarrow (a ∷ []) rs (more t no_roses) → ((r : Columns) → NarrowColumns a r s → Local o op (a ∷ []) b (r ∷ []) (s ∷ [])) → Narrows (rose tt o rs) (rose tt op (more t no_roses)) b
one_narrows o op a b rs t s is v h by =
    relates_node Asked NarrowColumns AgreeOn o op (a ∷ []) b rs (more t no_roses) v h (λ k.
    subst (λ (ss : List Columns). Local o op (a ∷ []) b (schemas rs) ss) (sym is) (one_here o op a b s (schemas rs) (subst (λ (ss : List Columns). NarrowSchemas (a ∷ []) (schemas rs) ss) is k) by))

-- filters

pub filter_narrows : (p : Named) (l : List Name) (rs : Roses (Unit {0}) Op) (t : Plan) (s : Columns) → schemas (more t no_roses) ≡ s ∷ [] → IsValid (rose tt (filter p) (more t no_roses)) → AllNarrow (set_of (asked_with l (leaves p.expr)) ∷ []) rs (more t no_roses) → Narrows (rose tt (filter p) rs) (rose tt (filter p) (more t no_roses)) (set_of l)
filter_narrows p l rs t s is v h =
    let a = set_of (asked_with l (leaves p.expr)) in
    let good : AllHold (checks (filter p) (s ∷ [])) = subst (λ (ss : List Columns). AllHold (checks (filter p) ss)) is v.0 in
    one_narrows (filter p) (filter p) a (set_of l) rs t s is v h (λ r q.
    subst (λ (x : Asked). Local (filter p) (filter p) (x ∷ []) (set_of l) (r ∷ []) (s ∷ [])) (more-is l (leaves p.expr))
    (local_filter p (set_of l) r s good (subst (λ (x : Asked). NarrowColumns x r s) (sym (more-is l (leaves p.expr))) q)))

-- projections

local_kept : (cs : Columns) (l : List Name) (r s : Columns) → AllHold (checks (simple_projection cs) (s ∷ [])) → IsFair (set_of l) cs → NarrowColumns (set_of (with_names [] (names_of (kept l cs)))) r s → Local (simple_projection (kept l cs)) (simple_projection cs) (set_of (with_names [] (names_of (kept l cs))) ∷ []) (set_of l) (r ∷ []) (s ∷ [])
local_kept cs l r s good fair h =
    let ks = asked.kept (set_of l) cs in
    let is : set_of (with_names [] (names_of (kept l cs))) ≡ names (with_names [] (names_of ks)) =
    ap (λ (x : Columns). set_of (with_names [] (names_of x))) (kept-is l cs) ∙ set_some (with_names [] (names_of ks)) (asked_some cs (set_of l) s good fair) in
    subst (λ (x : Asked). Local (simple_projection (kept l cs)) (simple_projection cs) (x ∷ []) (set_of l) (r ∷ []) (s ∷ [])) (sym is)
    (subst (λ (x : Columns). Local (simple_projection x) (simple_projection cs) (names (with_names [] (names_of ks)) ∷ []) (set_of l) (r ∷ []) (s ∷ [])) (sym (kept-is l cs))
    (local_columns cs (set_of l) r s good fair (subst (λ (x : Asked). NarrowColumns x r s) is h)))

pub projection_narrows : (cs : Columns) (l : List Name) (rs : Roses (Unit {0}) Op) (t : Plan) (s : Columns) → schemas (more t no_roses) ≡ s ∷ [] → IsValid (rose tt (simple_projection cs) (more t no_roses)) → IsFair (set_of l) cs → AllNarrow (set_of (with_names [] (names_of (kept l cs))) ∷ []) rs (more t no_roses) → Narrows (rose tt (simple_projection (kept l cs)) rs) (rose tt (simple_projection cs) (more t no_roses)) (set_of l)
projection_narrows cs l rs t s is v fair h =
    let o = simple_projection (kept l cs) in
    let op = simple_projection cs in
    let a = set_of (with_names [] (names_of (kept l cs))) in
    let good : AllHold (checks op (s ∷ [])) = subst (λ (ss : List Columns). AllHold (checks op ss)) is v.0 in
    one_narrows o op a (set_of l) rs t s is v h (λ r q. local_kept cs l r s good fair q)

-- scans

module _ (sources : ScanSources) (info : FileInfo) (hive : Option (List Stats)) (predicate : Option Named) (output : Option Columns) (kind : FileScan) (options : FileScanOptions) (rs : Roses (Unit {0}) Op) (v : IsValid (rose tt (scan sources info hive predicate output kind options) no_roses)) (h : AllNarrow [] rs no_roses) where
  abbrev given : Op
  given = scan sources info hive predicate output kind options

  whole_scan : Narrows (rose tt (scan sources info hive predicate output kind options) rs) (rose tt (scan sources info hive predicate output kind options) no_roses) all
  whole_scan = relates_node Asked NarrowColumns AgreeOn given given [] all rs no_roses v h (λ k. none_here given given all (schemas rs) k (same_none given v.0))

  module _ (wanted : List Name) (fair : IsFair (names wanted) (columns_or output (scan_columns info hive options))) where
    abbrev left : Op
    left = left_scan wanted sources info hive predicate kind options

    bare_scan : Narrows (rose tt (left_scan wanted sources info hive predicate kind options) rs) (rose tt (scan sources info hive predicate output kind options) no_roses) (names wanted)
    bare_scan = relates_node Asked NarrowColumns AgreeOn left given [] (names wanted) rs no_roses v h (λ k. none_here left given (names wanted) (schemas rs) k (local_scan sources info hive predicate output kind options wanted v.0 fair))

    top_scan : (top : Bool) → Narrows (projected top (typed_names (scan_columns_left wanted info hive kind options) wanted) (rose tt (left_scan wanted sources info hive predicate kind options) rs)) (rose tt (scan sources info hive predicate output kind options) no_roses) (names wanted)
    top_scan false = bare_scan
    top_scan true =
        relates_top Asked NarrowColumns AgreeOn (simple_projection (typed_names (scan_columns_left wanted info hive kind options) wanted)) (names wanted) (names wanted) (rose tt left rs) (rose tt given no_roses)
        (top_good sources info hive predicate output kind options wanted v.0 fair) (top_holds sources info hive predicate output kind options wanted v.0 fair) (λ c. tt)
        (λ c f g x has ag st. top_agrees sources info hive predicate output kind options wanted v.0 fair f g x has.0 ag st) v bare_scan

scan_narrows : (top : Bool) (l : List Name) (sources : ScanSources) (info : FileInfo) (hive : Option (List Stats)) (predicate : Option Named) (output : Option Columns) (kind : FileScan) (options : FileScanOptions) (rs : Roses (Unit {0}) Op) → IsValid (rose tt (scan sources info hive predicate output kind options) no_roses) → IsFair (set_of l) (columns_or output (scan_columns info hive options)) → AllNarrow [] rs no_roses → Narrows (rebuilt top l (scan sources info hive predicate output kind options) [] rs) (rose tt (scan sources info hive predicate output kind options) no_roses) (set_of l)
scan_narrows top [] sources info hive predicate output kind options rs v fair h = whole_scan sources info hive predicate output kind options rs v h
scan_narrows top (a ∷ l) sources info hive predicate output kind options rs v fair h = top_scan sources info hive predicate output kind options rs v h (a ∷ l) fair top

-- slices

slice_narrows : (offset : ℤ) (len : ℕ) (l : List Name) (rs : Roses (Unit {0}) Op) (t : Plan) (s : Columns) → schemas (more t no_roses) ≡ s ∷ [] → IsValid (rose tt (slice offset len) (more t no_roses)) → AllNarrow (set_of l ∷ []) rs (more t no_roses) → Narrows (rose tt (slice offset len) rs) (rose tt (slice offset len) (more t no_roses)) (set_of l)
slice_narrows offset len l rs t s is v h =
    one_narrows (slice offset len) (slice offset len) (set_of l) (set_of l) rs t s is v h (λ r q. local_slice offset len (set_of l) r s q)

-- sorts, distinct rows and sinks

sort_narrows : (keys : List Named) (part : Option (ℤ × ℕ)) (options : SortMultipleOptions) (l : List Name) (rs : Roses (Unit {0}) Op) (t : Plan) (s : Columns) → schemas (more t no_roses) ≡ s ∷ [] → IsValid (rose tt (sort keys part options) (more t no_roses)) → AllNarrow (set_of (asked_with l (all_leaves keys)) ∷ []) rs (more t no_roses) → Narrows (rose tt (sort keys part options) rs) (rose tt (sort keys part options) (more t no_roses)) (set_of l)
sort_narrows keys part options l rs t s is v h =
    let op = sort keys part options in
    let a = set_of (asked_with l (all_leaves keys)) in
    let good : AllHold (checks op (s ∷ [])) = subst (λ (ss : List Columns). AllHold (checks op ss)) is v.0 in
    one_narrows op op a (set_of l) rs t s is v h (λ r q.
    subst (λ (x : Asked). Local op op (x ∷ []) (set_of l) (r ∷ []) (s ∷ [])) (more-is l (all_leaves keys))
    (local_sort keys part options (set_of l) r s good (subst (λ (x : Asked). NarrowColumns x r s) (sym (more-is l (all_leaves keys))) q)))

distinct_narrows : (options : DistinctOptionsIR) (l : List Name) (rs : Roses (Unit {0}) Op) (t : Plan) (s : Columns) → schemas (more t no_roses) ≡ s ∷ [] → IsValid (rose tt (distinct options) (more t no_roses)) → AllNarrow (set_of (asked_with l (names_or options.subset (names_of s))) ∷ []) rs (more t no_roses) → Narrows (rose tt (distinct options) rs) (rose tt (distinct options) (more t no_roses)) (set_of l)
distinct_narrows options l rs t s is v h =
    let op = distinct options in
    let told = names_or options.subset (names_of s) in
    let a = set_of (asked_with l told) in
    let good : AllHold (checks op (s ∷ [])) = subst (λ (ss : List Columns). AllHold (checks op ss)) is v.0 in
    one_narrows op op a (set_of l) rs t s is v h (λ r q.
    subst (λ (x : Asked). Local op op (x ∷ []) (set_of l) (r ∷ []) (s ∷ [])) (more-is l told)
    (local_distinct options (set_of l) r s good (subst (λ (x : Asked). NarrowColumns x r s) (sym (more-is l told)) q)))

sink_narrows : (payload : SinkType) (l : List Name) (rs : Roses (Unit {0}) Op) (t : Plan) (s : Columns) → schemas (more t no_roses) ≡ s ∷ [] → IsValid (rose tt (sink payload) (more t no_roses)) → AllNarrow (set_of l ∷ []) rs (more t no_roses) → Narrows (rose tt (sink payload) rs) (rose tt (sink payload) (more t no_roses)) (set_of l)
sink_narrows payload l rs t s is v h = one_narrows (sink payload) (sink payload) (set_of l) (set_of l) rs t s is v h (λ r q. local_sink payload (set_of l) r s q)

-- functions

function_narrows : (f : FunctionIR) (l : List Name) (rs : Roses (Unit {0}) Op) (t : Plan) (s : Columns) → schemas (more t no_roses) ≡ s ∷ [] → IsValid (rose tt (map_function f) (more t no_roses)) → IsFair (set_of l) (function_schema f s) → AllNarrow (set_of (mapped_names l f s) ∷ []) rs (more t no_roses) → Narrows (rose tt (map_function f) rs) (rose tt (map_function f) (more t no_roses)) (set_of l)
function_narrows f l rs t s is v fair h =
    let op = map_function f in
    let a = set_of (mapped_names l f s) in
    let good : AllHold (checks op (s ∷ [])) = subst (λ (ss : List Columns). AllHold (checks op ss)) is v.0 in
    one_narrows op op a (set_of l) rs t s is v h (λ r q.
    subst (λ (x : Asked). Local op op (x ∷ []) (set_of l) (r ∷ []) (s ∷ [])) (function_asks f l s)
    (local_function f (set_of l) r s good fair (subst (λ (x : Asked). NarrowColumns x r s) (sym (function_asks f l s)) q)))

-- groupings

group_by_narrows : (keys aggs : List Named) (stored : Columns) (ordered : Bool) (options : GroupbyOptions) (l : List Name) (rs : Roses (Unit {0}) Op) (t : Plan) (s : Columns) → schemas (more t no_roses) ≡ s ∷ [] → IsValid (rose tt (group_by keys aggs stored ordered options) (more t no_roses)) → IsFair (set_of l) (made_schema [] (group_exprs keys aggs) s) → AllNarrow (set_of (grouping_names keys (kept_exprs (set_of l) aggs) l s) ∷ []) rs (more t no_roses) → Narrows (pruned_group_by l keys aggs stored ordered options rs) (rose tt (group_by keys aggs stored ordered options) (more t no_roses)) (set_of l)
group_by_narrows keys aggs stored ordered options [] rs t s is v fair h =
    let op = group_by keys aggs stored ordered options in
    let good : AllHold (checks op (s ∷ [])) = subst (λ (ss : List Columns). AllHold (checks op ss)) is v.0 in
    one_narrows op op (set_of (grouping_names keys (kept_exprs all aggs) [] s)) all rs t s is v h (λ r q. whole_grouped keys aggs stored ordered options s good r q)
group_by_narrows keys aggs stored ordered options (b ∷ l) rs t s is v fair h =
    let op = group_by keys aggs stored ordered options in
    let kept = kept_exprs (names (b ∷ l)) aggs in
    let good : AllHold (checks op (s ∷ [])) = subst (λ (ss : List Columns). AllHold (checks op ss)) is v.0 in
    one_narrows (group_by keys kept (with_types [] (typed_names stored (out_names (keys ++ kept)))) ordered options) op (set_of (grouping_names keys kept (b ∷ l) s)) (names (b ∷ l)) rs t s is v h
    (λ r q. local_grouped keys aggs stored ordered options s good (b ∷ l) fair r q)

-- selections

select_narrows : (es : List Named) (stored : Columns) (options : ProjectionOptions) (o : Option Name) (l : List Name) (rs : Roses (Unit {0}) Op) (t : Plan) (s : Columns) → schemas (more t no_roses) ≡ s ∷ [] → IsValid (rose tt (select es stored options) (more t no_roses)) → IsFair (set_of l) (made_schema [] es s) → AllNarrow (set_of (needed_names es o (selected_exprs (set_of l) es)) ∷ []) rs (more t no_roses) → Narrows (pruned_select l es stored options rs) (rose tt (select es stored options) (more t no_roses)) (set_of l)
select_narrows es stored options o [] rs t s is v fair h =
    let op = select es stored options in
    let ks = selected_exprs all es in
    let a = set_of (needed_names es o ks) in
    let good : AllHold (checks op (s ∷ [])) = subst (λ (ss : List Columns). AllHold (checks op ss)) is v.0 in
    one_narrows op op a all rs t s is v h (λ r q.
    whole_selected es stored options s good a r
    (subst (λ (x : List Named). SameLeaves x r s) (selected-all es) (needed_types es ks o r s (none_selected es all) q))
    (λ f g k. subst (λ (x : List Named). Agree (all_leaves x) f g) (selected-all es) (needed_frames es ks o f g (none_selected es all) k)))
select_narrows es stored options o (b ∷ l) rs t s is v fair h =
    let op = select es stored options in
    let ks = selected_exprs (names (b ∷ l)) es in
    let a = set_of (needed_names es o ks) in
    let good : AllHold (checks op (s ∷ [])) = subst (λ (ss : List Columns). AllHold (checks op ss)) is v.0 in
    one_narrows (select ks (with_types [] (typed_names stored (out_names ks))) options) op a (names (b ∷ l)) rs t s is v h (λ r q.
    local_selected es stored options s good (b ∷ l) fair r (needed_types es ks o r s (none_selected es (names (b ∷ l))) q) a (λ f g k. needed_frames es ks o f g (none_selected es (names (b ∷ l))) k))

-- additions

module _ (es : List Named) (stored : Columns) (options : ProjectionOptions) (n : Unit {0}) (o : Op) (us : Roses (Unit {0}) Op) (v : IsValid (rose tt (hstack es stored options) (more (rose n o us) no_roses))) where
  abbrev adding : Op
  adding = hstack es stored options

  abbrev t : Roses (Unit {0}) Op
  t = more (rose n o us) no_roses

  abbrev s : Columns
  s = schema_by o (schemas us)

  -- by what the kept expressions are
  kept_here : (wanted : List Name) → Fair wanted (made_schema (schema_by o (schemas us)) es (schema_by o (schemas us))) → (stay : List Named) → kept_exprs (names wanted) es ≡ stay → (rs : Roses (Unit {0}) Op) → AllNarrow (asks_added stay wanted (schema_by o (schemas us)) ∷ []) rs (more (rose n o us) no_roses) → Narrows (stacked stay stored options rs) (rose tt (hstack es stored options) (more (rose n o us) no_roses)) (names wanted)
  kept_here wanted fair [] is no_roses h = absurd h
  kept_here wanted fair [] is (more r (more r' rs)) h = absurd h.1
  kept_here wanted fair [] is (more r no_roses) h =
      relates_drop Asked NarrowColumns AgreeOn adding (names wanted) (names wanted) r (rose n o us) v (dropped_holds es s wanted is (schema r) h.0.schema)
      (λ c f g fit has ag. (made g.height g.columns es g, refl, dropped_agrees es s wanted is f g ag)) h.0
  kept_here wanted fair (e ∷ stay) is no_roses h = absurd h
  kept_here wanted fair (e ∷ stay) is (more r (more r' rs)) h = absurd h.1
  kept_here wanted fair (e ∷ stay) is (more (rose m q vs) no_roses) h =
      let rs = more (rose m q vs) no_roses in
      let r = schema_by q (schemas vs) in
      let vr = h.0.valid in
      let a = asks_added (e ∷ stay) wanted s in
      let made_op : Columns → Op = λ x. hstack (e ∷ stay) (with_types x (typed_names stored (out_names (e ∷ stay)))) options in
      subst (λ (ss : List Columns). Narrows (rose tt (made_op (first_schema ss)) rs) (rose tt adding t) (names wanted)) (sym (stored-schemas rs (vr.0, vr.1, tt)))
      (relates_node Asked NarrowColumns AgreeOn (made_op r) adding (a ∷ []) (names wanted) rs t v h (λ j. local_added es stored options s wanted v.0 fair r (e ∷ stay) is j.0))

  stack_narrows : (l : List Name) (rs : Roses (Unit {0}) Op) → IsFair (set_of l) (made_schema (schema_by o (schemas us)) es (schema_by o (schemas us))) → AllNarrow (set_of (stacked_names l es (first_schema (stored_all (more (rose n o us) no_roses)))) ∷ []) rs (more (rose n o us) no_roses) → Narrows (pruned_hstack l es stored options rs) (rose tt (hstack es stored options) (more (rose n o us) no_roses)) (set_of l)
  stack_narrows [] rs fair h =
      one_narrows adding adding all all rs (rose n o us) s refl v h (λ r q. subst (λ (x : Columns). Local adding adding (all ∷ []) all (x ∷ []) (s ∷ [])) (sym q) (same_one adding s v.0))
  stack_narrows (b ∷ l) rs fair h =
      kept_here (b ∷ l) fair (kept_exprs (names (b ∷ l)) es) refl rs
      (subst (λ (x : Asked). AllNarrow (x ∷ []) rs t) (ap (λ (ss : List Columns). set_of (stacked_names (b ∷ l) es (first_schema ss))) (stored-schemas t v.1) ∙ sym (stacked_asks es (b ∷ l) s)) h)

-- scans of frames

frame_narrows : (l : List Name) (df : Option ℕ) (columns : Columns) (output : Option Columns) (rs : Roses (Unit {0}) Op) → IsValid (rose tt (frame_scan df columns output) no_roses) → IsFair (set_of l) (columns_or output columns) → AllNarrow [] rs no_roses → Narrows (rose tt (frame_scan df columns (pruned_output l columns output)) rs) (rose tt (frame_scan df columns output) no_roses) (set_of l)
frame_narrows [] df columns output rs v fair h =
    let given = frame_scan df columns output in
    relates_node Asked NarrowColumns AgreeOn given given [] all rs no_roses v h (λ k. none_here given given all (schemas rs) k (same_none given v.0))
frame_narrows (a ∷ l) df columns output rs v fair h =
    let given = frame_scan df columns output in
    let left = frame_scan df columns (Some (typed_names columns (a ∷ l))) in
    relates_node Asked NarrowColumns AgreeOn left given [] (names (a ∷ l)) rs no_roses v h (λ k. none_here left given (names (a ∷ l)) (schemas rs) k (local_frame df columns output (a ∷ l) v.0 fair))

-- joins

sides_narrow : (l : List Name) (left_on right_on : List Named) (stored : Columns) (told : Told) (rs : Roses (Unit {0}) Op) (q1 q2 : Plan) → IsValid (rose tt (join left_on right_on stored told) (more q1 (more q2 no_roses))) → IsFair (set_of l) (schema (rose tt (join left_on right_on stored told) (more q1 (more q2 no_roses)))) → AllNarrow (set_of (left_names l left_on right_on told (schema q1) (schema q2)) ∷ set_of (right_names l left_on right_on told (schema q1) (schema q2)) ∷ []) rs (more q1 (more q2 no_roses)) → Narrows (pruned_join l left_on right_on stored told (schema q1) (schema q2) rs) (rose tt (join left_on right_on stored told) (more q1 (more q2 no_roses))) (set_of l)
sides_narrow l left_on right_on stored told (more r1 (more r2 no_roses)) q1 q2 v fair h = join_narrows l left_on right_on stored told r1 r2 q1 q2 v fair h.0 h.1.0
sides_narrow l left_on right_on stored told (more r1 (more r2 (more r3 rs))) q1 q2 v fair h = absurd h.1.1
sides_narrow l left_on right_on stored told (more r1 no_roses) q1 q2 v fair h = absurd h.1
sides_narrow l left_on right_on stored told no_roses q1 q2 v fair h = absurd h

module _ (l : List Name) (left_on right_on : List Named) (stored : Columns) (told : Told) (rs : Roses (Unit {0}) Op) (n m : Unit {0}) (o o' : Op) (us us' : Roses (Unit {0}) Op) where
  abbrev sides : Roses (Unit {0}) Op
  sides = more (rose n o us) (more (rose m o' us') no_roses)

  abbrev joined : Plan
  joined = rose tt (join left_on right_on stored told) sides

  joined_narrows : IsValid joined → IsFair (set_of l) (schema joined) → AllNarrow (sets_of (asks_plans l (join left_on right_on stored told) sides)) rs sides → Narrows (pruned_join l left_on right_on stored told (first_schema (stored_all sides)) (first_schema (rest_schemas (stored_all sides))) rs) joined (set_of l)
  joined_narrows v fair h =
      subst (λ (ss : List Columns). Narrows (pruned_join l left_on right_on stored told (first_schema ss) (first_schema (rest_schemas ss)) rs) joined (set_of l)) (sym (stored-schemas sides v.1))
      (sides_narrow l left_on right_on stored told rs (rose n o us) (rose m o' us') v fair
      (subst (λ (ss : List Columns). AllNarrow (set_of (left_names l left_on right_on told (first_schema ss) (first_schema (rest_schemas ss))) ∷ set_of (right_names l left_on right_on told (first_schema ss) (first_schema (rest_schemas ss))) ∷ []) rs sides) (stored-schemas sides v.1) h))

-- a node that is rebuilt over inputs that narrow at what it asks narrows at what it is asked
rebuilt_narrows : (top : Bool) (l : List Name) (op : Op) (rs ts : Roses (Unit {0}) Op) → is_closed op ≡ false → IsValid (rose tt op ts) → IsFair (set_of l) (schema_by op (schemas ts)) → AllNarrow (sets_of (asks_plans l op ts)) rs ts → Narrows (rebuilt top l op (stored_all ts) rs) (rose tt op ts) (set_of l)
rebuilt_narrows top l (filter p) rs (more (rose n o us) no_roses) opens v fair h = filter_narrows p l rs (rose n o us) (schema_by o (schemas us)) refl v h
rebuilt_narrows top l (filter p) rs (more (rose n o us) (more (rose m o' us') rest)) opens v fair h = cc
rebuilt_narrows top l (filter p) rs no_roses opens v fair h = cc
rebuilt_narrows top l (simple_projection cs) rs (more (rose n o us) no_roses) opens v fair h = projection_narrows cs l rs (rose n o us) (schema_by o (schemas us)) refl v fair h
rebuilt_narrows top l (simple_projection cs) rs (more (rose n o us) (more (rose m o' us') rest)) opens v fair h = cc
rebuilt_narrows top l (simple_projection cs) rs no_roses opens v fair h = cc
rebuilt_narrows top l (scan sources info hive predicate output kind options) rs no_roses opens v fair h = scan_narrows top l sources info hive predicate output kind options rs v fair h
rebuilt_narrows top l (scan sources info hive predicate output kind options) rs (more (rose n o us) rest) opens v fair h = cc
rebuilt_narrows top l (slice offset len) rs (more (rose n o us) no_roses) opens v fair h = slice_narrows offset len l rs (rose n o us) (schema_by o (schemas us)) refl v h
rebuilt_narrows top l (slice offset len) rs (more (rose n o us) (more (rose m o' us') rest)) opens v fair h = cc
rebuilt_narrows top l (slice offset len) rs no_roses opens v fair h = cc
rebuilt_narrows top l (frame_scan df columns output) rs no_roses opens v fair h = frame_narrows l df columns output rs v fair h
rebuilt_narrows top l (frame_scan df columns output) rs (more (rose n o us) rest) opens v fair h = cc
rebuilt_narrows top l (select es stored options) rs (more (rose n o us) no_roses) opens v fair h = select_narrows es stored options (first_stand_in (stand_ins (more (rose n o us) no_roses) (stored_all (more (rose n o us) no_roses)))) l rs (rose n o us) (schema_by o (schemas us)) refl v fair h
rebuilt_narrows top l (select es stored options) rs (more (rose n o us) (more (rose m o' us') rest)) opens v fair h = cc
rebuilt_narrows top l (select es stored options) rs no_roses opens v fair h = cc
rebuilt_narrows top l (hstack es stored options) rs (more (rose n o us) no_roses) opens v fair h = stack_narrows es stored options n o us v l rs fair h
rebuilt_narrows top l (hstack es stored options) rs (more (rose n o us) (more (rose m o' us') rest)) opens v fair h = cc
rebuilt_narrows top l (hstack es stored options) rs no_roses opens v fair h = cc
rebuilt_narrows top l (sort keys part options) rs (more (rose n o us) no_roses) opens v fair h = sort_narrows keys part options l rs (rose n o us) (schema_by o (schemas us)) refl v h
rebuilt_narrows top l (sort keys part options) rs (more (rose n o us) (more (rose m o' us') rest)) opens v fair h = cc
rebuilt_narrows top l (sort keys part options) rs no_roses opens v fair h = cc
rebuilt_narrows top l (join left_on right_on stored told) rs (more (rose n o us) (more (rose m o' us') no_roses)) opens v fair h = joined_narrows l left_on right_on stored told rs n m o o' us us' v fair h
rebuilt_narrows top l (join left_on right_on stored told) rs no_roses opens v fair h = cc
rebuilt_narrows top l (join left_on right_on stored told) rs (more (rose n o us) no_roses) opens v fair h = cc
rebuilt_narrows top l (join left_on right_on stored told) rs (more (rose n o us) (more (rose m o' us') (more (rose k q ws) rest))) opens v fair h = cc
rebuilt_narrows top l (distinct options) rs (more (rose n o us) no_roses) opens v fair h =
    distinct_narrows options l rs (rose n o us) (schema_by o (schemas us)) refl v
    (subst (λ (ss : List Columns). AllNarrow (set_of (asked_with l (names_or options.subset (names_of (first_schema ss)))) ∷ []) rs (more (rose n o us) no_roses)) (stored-schemas (more (rose n o us) no_roses) v.1) h)
rebuilt_narrows top l (distinct options) rs (more (rose n o us) (more (rose m o' us') rest)) opens v fair h = cc
rebuilt_narrows top l (distinct options) rs no_roses opens v fair h = cc
rebuilt_narrows top l (group_by keys aggs stored ordered options) rs (more (rose n o us) no_roses) opens v fair h =
    group_by_narrows keys aggs stored ordered options l rs (rose n o us) (schema_by o (schemas us)) refl v fair
    (subst (λ (ss : List Columns). AllNarrow (set_of (grouping_names keys (kept_exprs (set_of l) aggs) l (first_schema ss)) ∷ []) rs (more (rose n o us) no_roses)) (stored-schemas (more (rose n o us) no_roses) v.1) h)
rebuilt_narrows top l (group_by keys aggs stored ordered options) rs (more (rose n o us) (more (rose m o' us') rest)) opens v fair h = cc
rebuilt_narrows top l (group_by keys aggs stored ordered options) rs no_roses opens v fair h = cc
rebuilt_narrows top l (map_function function) rs (more (rose n o us) no_roses) opens v fair h =
    function_narrows function l rs (rose n o us) (schema_by o (schemas us)) refl v fair
    (subst (λ (ss : List Columns). AllNarrow (set_of (mapped_names l function (first_schema ss)) ∷ []) rs (more (rose n o us) no_roses)) (stored-schemas (more (rose n o us) no_roses) v.1) h)
rebuilt_narrows top l (map_function function) rs (more (rose n o us) (more (rose m o' us') rest)) opens v fair h = cc
rebuilt_narrows top l (map_function function) rs no_roses opens v fair h = cc
rebuilt_narrows top l (sink payload) rs (more (rose n o us) no_roses) opens v fair h = sink_narrows payload l rs (rose n o us) (schema_by o (schemas us)) refl v h
rebuilt_narrows top l (sink payload) rs (more (rose n o us) (more (rose m o' us') rest)) opens v fair h = cc
rebuilt_narrows top l (sink payload) rs no_roses opens v fair h = cc
rebuilt_narrows top l (union options) rs ts opens v fair h = union_narrows options l rs ts v fair (subst (λ (x : List Asked). AllNarrow x rs ts) (stored_each l ts v.1) h)
rebuilt_narrows top l (hconcat stored options) rs ts opens v fair h =
    hconcat_narrows stored options l rs ts v fair (subst (λ (ss : List Columns). AllNarrow (sets_of (map (held_names l) ss)) rs ts) (stored-schemas ts v.1) h)
rebuilt_narrows top l (cache id hits) rs ts opens v fair h = cc
rebuilt_narrows top l invalid rs ts opens v fair h = cc

-- a closed node over inputs as they are narrows at what it is asked
closed_narrows : (top : Bool) (l : List Name) (op : Op) (ts : Roses (Unit {0}) Op) → is_closed op ≡ true → IsValid (rose tt op ts) → IsFair (set_of l) (schema_by op (schemas ts)) → Narrows (rebuilt top l op (stored_all ts) ts) (rose tt op ts) (set_of l)
closed_narrows top [] (cache id hits) ts closed v fair = narrows_self (rose tt (cache id hits) ts) v
closed_narrows top (a ∷ l) (cache id hits) ts closed v fair = covered_narrows a l (rose tt (cache id hits) ts) v fair
closed_narrows top l op ts closed v fair = absurd (cc)

-- a node over inputs that are left as they are below it
left_narrows : (top : Bool) (l : List Name) (op : Op) (rs ts : Roses (Unit {0}) Op) → IsValid (rose tt op ts) → IsFair (set_of l) (schema_by op (schemas ts)) → (is_closed op ≡ false → AllNarrow (sets_of (asks_plans l op ts)) rs ts) → Narrows (rebuilt top l op (stored_all ts) (left_below (is_closed op) ts rs)) (rose tt op ts) (set_of l)
left_narrows top l op rs ts v fair h = at (is_closed op) refl
  where
    at : (b : Bool) → is_closed op ≡ b → Narrows (rebuilt top l op (stored_all ts) (left_below b ts rs)) (rose tt op ts) (set_of l)
    at true e = closed_narrows top l op ts e v fair
    at false e = rebuilt_narrows top l op rs ts e v fair (h e)

-- pruned plans narrow at what they are asked, each by a list of its own
pub all_narrow : (top : Bool) (lists : List (List Name)) (ts : Roses (Unit {0}) Op) → AllValid ts → FairAll (sets_of lists) (schemas ts) → AllNarrow (sets_of lists) (pruned_all top lists ts) ts
all_narrow top [] no_roses v f = tt
all_narrow top (l ∷ lists) (more (rose n op ts) rest) v f = (
  left_narrows top l op (pruned_all (top_below top op) (asks_plans l op ts) ts) ts (v.0, v.1) f.0 (λ opens. all_narrow (top_below top op) (asks_plans l op ts) ts v.1 (fair_each l op ts opens v.0 v.1 f.0)),
  all_narrow (top_after top (rose n op ts)) lists rest v.2 f.1,
)
all_narrow top (l ∷ lists) no_roses v f = absurd f
all_narrow top [] (more (rose n op ts) rest) v f = absurd f

-- a pruned plan narrows at what it is asked
pub pruned_narrows : (top : Bool) (l : List Name) (p : Plan) → IsValid p → IsFair (set_of l) (schema p) → Narrows (pruned top l p) p (set_of l)
pruned_narrows top l (rose n op ts) v f = (all_narrow top (l ∷ []) (more (rose n op ts) no_roses) (v.0, v.1, tt) (f, tt)).0

-- a plan that is pruned to everything refines
pub pruned_refines : (top : Bool) (p : Plan) → IsValid p → Refines (pruned top [] p) p
pruned_refines top p v = relates_refines (pruned top [] p) p (pruned_narrows top [] p v tt)
