-- What is done at a node that was taken: before its input is pruned, and after.
use Rattle.std.specs.Prelude.{Bool, true, false, List, [], ◌∷◌, ◌++◌, map, Option, None, Some, slice_set, ◌≡◌}
use Rattle.plan_core.specs.declared.arena.Node.{Node}
use Rattle.plan_core.specs.declared.options.ProjectionOptions.{ProjectionOptions}
use Rattle.plan_core.specs.Columns.{Columns, names_of}
use Rattle.plan_options.specs.declared.group.GroupbyOptions.{GroupbyOptions}
use Rattle.plan_core.specs.Names.{with_names}
use Rattle.plan_expr.specs.declared.aexpr.AExpr.{AExpr}
use Rattle.plan_expr.specs.declared.expr_ir.ExprIR.{ExprIR}
use Rattle.plan_ir.specs.declared.ir.IR.{IR}
use Rattle.plan_ir.specs.declared.ir.IR.TheVariants.{Slice, Filter, Scan, DataFrameScan, SimpleProjection, Select, HStack, Sort, GroupBy, Join, Distinct, MapFunction, Sink, Union, HConcat, Cache, Invalid}
use Rattle.plan_expr.specs.Exprs.{expr_at, all_named_at}
use Rattle.plan_expr.specs.Leaves.{Name, leaves}
use Rattle.plan_frame.specs.Frames.{names_or}
use Rattle.plan_frame.specs.ExprLists.{all_leaves}
use Rattle.plan_meaning.specs.Asked.{grouping_names, needed_names}
use Rattle.plan_pruned.specs.Pruned.{asked_columns, asked_with, held_names, kept, mapped_names, names_alike, pruned_output}
use Rattle.plan_prune_parts.specs.declared.kept.Kept.{Kept}
use Rattle.plan_prune_parts.specs.declared.step.Step.{Step}
use Rattle.plan_prune_parts.specs.declared.step.Step.TheVariants.{Leaf, Over, Closed, Each}
use Rattle.plan_prune_parts.specs.Kept.{selected_at, stacked_at, is_some_name, names_at, stored_after, asks_after, beside_after, with_stacked}
use Rattle.plan_prune_steps.specs.Scans.{scan_step}
use Rattle.plan_prune_parts.specs.Said.{columns_at, stand_in_at}
use Rattle.plan_prune_joins.specs.Joined.{JoinPut, joined_step}

-- the step of a selection that is asked names; the last one is what stands in for the rows of its input
abbrev pub selected_step : List AExpr → List Name → Node → List ExprIR → Columns → ProjectionOptions → Option Name → Step
selected_step ex asked i es schema options o =
    let ks = selected_at ex asked es in
    Over i (needed_names (all_named_at ex es) o (all_named_at ex ks)) (Select i ks (stored_after (is_some_name asked) [] (names_at ks) schema) options)

-- the step of an addition that is asked names; the last columns are its input's
abbrev pub stacked_step : List AExpr → List Name → Node → List ExprIR → Columns → ProjectionOptions → Columns → Step
stacked_step ex asked i es schema options s =
    let ks = stacked_at asked es in
    Over i (asks_after asked (all_named_at ex ks) s) (HStack i ks schema options)

-- the step of a grouping that is asked names; the last columns are its input's
abbrev pub grouped_step : List AExpr → List Name → Node → (keys aggs : List ExprIR) → Columns → Bool → GroupbyOptions → Columns → Step
grouped_step ex asked i keys aggs schema ordered o s =
    let ks = stacked_at asked aggs in
    Over i (grouping_names (all_named_at ex keys) (all_named_at ex ks) asked s) (GroupBy i keys ks (stored_after (is_some_name asked) [] (names_at (keys ++ ks)) schema) ordered o)

-- what a concatenation asks its inputs: each of them the asked names that it has
abbrev pub held_at : List IR → List AExpr → List Name → List Node → List (List Name)
held_at lp ex asked ns = map (λ (n : Node). held_names asked (columns_at lp ex n)) ns

-- the names to which each of a union's inputs gets a projection: the asked ones where there is more than one input
abbrev pub covering : List Node → List Name → Option (List Name)
covering [] asked = None
covering (n ∷ []) asked = None
covering (n ∷ m ∷ ns) asked = Some asked

-- a concatenation
abbrev pub is_hconcat : IR → Bool
is_hconcat (HConcat inputs schema options) = true
is_hconcat other = false

-- a cache
abbrev pub is_cache : IR → Bool
is_cache (Cache input id cache_hits) = true
is_cache other = false

-- a node with expressions that read its inputs
abbrev pub has_exprs : IR → Bool
has_exprs (Filter input predicate) = true
has_exprs (Select input expr schema options) = true
has_exprs (HStack input exprs schema options) = true
has_exprs (Sort input by_column slice sort_options) = true
has_exprs (GroupBy input keys aggs schema maintain_order options) = true
has_exprs (Join input_left input_right schema left_on right_on options) = true
has_exprs other = false

-- the step of a node that is asked names, of which nothing is kept yet
abbrev pub step_of : List IR → List AExpr → List Name → IR → Step
step_of lp ex asked (Slice i offset len) = Over i asked (Slice i offset len)
step_of lp ex asked (Filter i predicate) = Over i (asked_with asked (leaves (expr_at ex predicate.node))) (Filter i predicate)
step_of lp ex asked (Scan sources info hive predicate output kind options) = scan_step asked sources info hive predicate output kind options
step_of lp ex asked (DataFrameScan df schema output) = Leaf None (DataFrameScan df schema (pruned_output asked schema output))
step_of lp ex asked (SimpleProjection i columns) = Over i (with_names [] (names_of (kept asked columns))) (SimpleProjection i (kept asked columns))
step_of lp ex asked (Select i es schema options) = selected_step ex asked i es schema options (stand_in_at lp ex i)
step_of lp ex asked (HStack i es schema options) = stacked_step ex asked i es schema options (columns_at lp ex i)
step_of lp ex asked (Sort i keys part options) = Over i (asked_with asked (all_leaves (all_named_at ex keys))) (Sort i keys part options)
step_of lp ex asked (GroupBy i keys aggs schema ordered options) = grouped_step ex asked i keys aggs schema ordered options (columns_at lp ex i)
step_of lp ex asked (Join left right schema left_on right_on options) = joined_step ex asked left right schema left_on right_on options (columns_at lp ex left) (columns_at lp ex right)
step_of lp ex asked (Distinct i options) = Over i (asked_with asked (names_or options.subset (names_of (columns_at lp ex i)))) (Distinct i options)
step_of lp ex asked (MapFunction i function) = Over i (mapped_names asked function (columns_at lp ex i)) (MapFunction i function)
step_of lp ex asked (Sink i payload) = Over i asked (Sink i payload)
step_of lp ex asked (Union inputs options) = Each inputs (names_alike asked inputs) (covering inputs asked) None (Union inputs options)
step_of lp ex asked (HConcat inputs schema options) = Each inputs (held_at lp ex asked inputs) None None (HConcat inputs schema options)
step_of lp ex asked (Cache i id cache_hits) = Closed (asked_columns asked (columns_at lp ex i)) (Cache i id cache_hits)
step_of lp ex asked Invalid = Leaf None Invalid

-- the arena with a node back at its number, over its pruned input, where names are asked of it or none
abbrev pub put_back : Bool → List IR → List AExpr → Node → IR → List IR
put_back some lp ex n (Scan sources info hive predicate output kind options) = slice_set lp n.0 (Scan sources info hive predicate output kind options)
put_back some lp ex n (HStack i es schema options) = with_stacked some lp n i es schema options (columns_at lp ex i)
put_back some lp ex n (Slice i offset len) = slice_set lp n.0 (Slice i offset len)
put_back some lp ex n (Filter i predicate) = slice_set lp n.0 (Filter i predicate)
put_back some lp ex n (DataFrameScan df schema output) = slice_set lp n.0 (DataFrameScan df schema output)
put_back some lp ex n (SimpleProjection i columns) = slice_set lp n.0 (SimpleProjection i columns)
put_back some lp ex n (Select i es schema options) = slice_set lp n.0 (Select i es schema options)
put_back some lp ex n (Sort i keys part options) = slice_set lp n.0 (Sort i keys part options)
put_back some lp ex n (GroupBy i keys aggs schema ordered options) = slice_set lp n.0 (GroupBy i keys aggs schema ordered options)
put_back some lp ex n (Join left right schema left_on right_on options) = slice_set lp n.0 (Join left right schema left_on right_on options)
put_back some lp ex n (Distinct i options) = slice_set lp n.0 (Distinct i options)
put_back some lp ex n (MapFunction i function) = slice_set lp n.0 (MapFunction i function)
put_back some lp ex n (Sink i payload) = slice_set lp n.0 (Sink i payload)
put_back some lp ex n (Union inputs options) = slice_set lp n.0 (Union inputs options)
put_back some lp ex n (HConcat inputs schema options) = slice_set lp n.0 (HConcat inputs (beside_after some (map (columns_at lp ex) inputs) schema) options)
put_back some lp ex n (Cache i id cache_hits) = slice_set lp n.0 (Cache i id cache_hits)
put_back some lp ex n Invalid = slice_set lp n.0 Invalid

-- a node is back at its number over its pruned inputs: a join of which something is kept so, and another as it is, while no expressions are added
abbrev pub IsPutBack : Bool → Option Kept → (lp new : List IR) → (ex grown : List AExpr) → Node → IR → Type 0
IsPutBack some None lp new ex grown n p = ((es : List AExpr) → new ≡ put_back some lp es n p) × (grown ≡ ex)
IsPutBack some (Some kept) lp new ex grown n p = JoinPut kept lp new ex grown n p
