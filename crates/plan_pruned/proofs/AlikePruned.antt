-- Pruning does the same to a plan without its rechunk marks: it looks at no mark, and leaves each as it is.
use Rattle.std.proofs.Common.{◌≡◌, Bool, true, false, not, ◌&&◌, ◌||◌, cond, List, [], ◌∷◌, Option, None, Some, refl, sym, ap, ap₂, ◌∙◌}
use Rattle.plan_core.specs.Columns.{Columns, names_of}
use Rattle.plan_core.specs.Names.{has}
use Rattle.std.specs.List.{list_all}
use Rattle.plan_options.specs.declared.join.JoinArgs.{JoinArgs}
use Rattle.plan_tree.specs.Rose.{Roses, rose, no_roses, more}
use Rattle.plan_expr.specs.Exprs.{Named}
use Rattle.plan_expr.specs.Leaves.{Name}
use Rattle.plan_join.specs.Naming.{has_right, join_columns}
use Rattle.plan_join.specs.Told.{Told, column_keys}
use Rattle.plan_scan.specs.declared.file_scan.FileScan.{FileScan}
use Rattle.plan_scan.specs.declared.file_scan.FileScan.TheVariants as kinds
use Rattle.plan_ir.specs.Plans.{Op, slice, filter, scan, frame_scan, simple_projection, select, hstack, sort, group_by, join, distinct, map_function, sink, union, hconcat, cache, invalid, Plan}
use Rattle.plan_core.specs.declared.options.ProjectionOptions.{ProjectionOptions}
use Rattle.plan_meaning.specs.Counting.{is_closed, is_count, meet_count, stand_in, stand_ins}
use Rattle.plan_meaning.specs.Asked.{kept_exprs}
use Rattle.plan_meaning.specs.JoinAsked.{origin_of}
use Rattle.plan_meaning.specs.Marks.{unmarked, unmarked_all, unmarked_op}
use Rattle.plan_meaning.specs.PlanAt.{one_plan}
use Rattle.plan_meaning.specs.Relating.{names as these}
use Rattle.plan_meaning.specs.Typing.{first_schema, rest_schemas}
use Rattle.plan_schema.specs.Stored.{stored_all, stored_by}
use Rattle.plan_pruned.specs.JoinPruned.{are_called_alike, called_now, first_of_each, narrowed_args, narrowed_told, pruned_join, topped_if}
use Rattle.plan_pruned.specs.Pruned.{are_several, asked_columns, asks, asks_plans, covered, covered_each, covered_if, first_names, left_below, projected_to, pruned, pruned_all, rebuilt, rest_names, stacked, top_after, top_below}

abbrev Plans : Type 0
Plans = Roses (Unit {0}) Op

-- What a node says without its mark

stored_op : (op : Op) (ss : List Columns) → stored_by (unmarked_op op) ss ≡ stored_by op ss
stored_op (scan sources info hive predicate output kind options) ss = refl
stored_op (union options) ss = refl
stored_op op ss = refl

stand_op : (op : Op) (s : Columns) → stand_in (unmarked_op op) s ≡ stand_in op s
stand_op (scan sources info hive predicate output kind options) s = refl
stand_op (union options) s = refl
stand_op op s = refl

closed_op : (op : Op) → is_closed (unmarked_op op) ≡ is_closed op
closed_op (scan sources info hive predicate output kind options) = refl
closed_op (union options) = refl
closed_op op = refl

count_op : (op : Op) → is_count (unmarked_op op) ≡ is_count op
count_op (scan sources info hive predicate output kind options) = refl
count_op (union options) = refl
count_op op = refl

asks_op : (asked : List Name) (op : Op) (ss : List Columns) (os : List (Option Name)) → asks asked (unmarked_op op) ss os ≡ asks asked op ss os
asks_op asked (scan sources info hive predicate output kind options) ss os = refl
asks_op asked (union options) ss os = refl
asks_op asked op ss os = refl

-- What plans say without their marks

pub stored_same : (ts : Plans) → stored_all (unmarked_all ts) ≡ stored_all ts
stored_same no_roses = refl
stored_same (more (rose n op ts) rest) = ap₂ (λ (c : Columns) (cs : List Columns). c ∷ cs) (ap (stored_by (unmarked_op op)) (stored_same ts) ∙ stored_op op (stored_all ts)) (stored_same rest)

stands_same : (ts : Plans) (ss : List Columns) → stand_ins (unmarked_all ts) ss ≡ stand_ins ts ss
stands_same no_roses ss = refl
stands_same (more (rose n op ts) rest) ss = ap₂ (λ (o : Option Name) (os : List (Option Name)). o ∷ os) (stand_op op (first_schema ss)) (stands_same rest (rest_schemas ss))

meet_same : (ts : Plans) → meet_count (unmarked_all ts) ≡ meet_count ts
meet_same no_roses = refl
meet_same (more (rose n op ts) rest) =
    ap₂ (λ (a b : Bool). a || b) (count_op op)
    (ap₂ (λ (a b : Bool). a || b) (ap₂ (λ (a b : Bool). not a && b) (closed_op op) (meet_same ts)) (meet_same rest))

asks_same : (asked : List Name) (op : Op) (ts : Plans) → asks_plans asked (unmarked_op op) (unmarked_all ts) ≡ asks_plans asked op ts
asks_same asked op ts =
    asks_op asked op (stored_all (unmarked_all ts)) (stand_ins (unmarked_all ts) (stored_all (unmarked_all ts)))
    ∙ ap₂ (asks asked op) (stored_same ts) (stands_same ts (stored_all (unmarked_all ts)) ∙ ap (stand_ins ts) (stored_same ts))

-- Plans with others after them, and with projections on top

pub one_before : (p : Plan) (rest : Plans) → unmarked_all (more p rest) ≡ more (unmarked p) (unmarked_all rest)
one_before (rose n op ts) rest = refl

pub first_same : (ts : Plans) → one_plan (unmarked_all ts) ≡ unmarked (one_plan ts)
first_same no_roses = refl
first_same (more (rose n op ts) rest) = refl

pub covered_same : (asked : List Name) (p : Plan) → covered asked (unmarked p) ≡ unmarked (covered asked p)
covered_same asked (rose n op ts) =
    ap (λ (s : Columns). projected_to (asked_columns asked s) (rose n (unmarked_op op) (unmarked_all ts))) (ap (stored_by (unmarked_op op)) (stored_same ts) ∙ stored_op op (stored_all ts))
    ∙ at (asked_columns asked (stored_by op (stored_all ts)))
  where
    at : (o : Option Columns) → projected_to o (rose n (unmarked_op op) (unmarked_all ts)) ≡ unmarked (projected_to o (rose n op ts))
    at None = refl
    at (Some columns) = refl

each_same : (asked : List Name) (ts : Plans) → covered_each asked (unmarked_all ts) ≡ unmarked_all (covered_each asked ts)
each_same asked no_roses = refl
each_same asked (more (rose n op ts) rest) =
    ap₂ (λ (p : Plan) (ps : Plans). more p ps) (covered_same asked (rose n op ts)) (each_same asked rest)
    ∙ sym (one_before (covered asked (rose n op ts)) (covered_each asked rest))

several_same : (ts : Plans) → are_several (unmarked_all ts) ≡ are_several ts
several_same no_roses = refl
several_same (more (rose n op ts) no_roses) = refl
several_same (more (rose n op ts) (more (rose m o us) rest)) = refl

covers_same : (b : Bool) (asked : List Name) (ts : Plans) → covered_if b asked (unmarked_all ts) ≡ unmarked_all (covered_if b asked ts)
covers_same true asked ts = each_same asked ts
covers_same false asked ts = refl

either_same : (b : Bool) (p q r s : Plan) → p ≡ unmarked r → q ≡ unmarked s → cond b p q ≡ unmarked (cond b r s)
either_same true p q r s h k = h
either_same false p q r s h k = k

topped_same : (b : Bool) (now : Name → Name) (asked : List Name) (cs : Columns) (p : Plan) → topped_if b now asked cs (unmarked p) ≡ unmarked (topped_if b now asked cs p)
topped_same false now asked cs p = refl
topped_same true now asked cs (rose n op ts) = either_same (are_called_alike now asked) _ _ _ _ (either_same (list_all (has asked) (names_of cs)) _ _ _ _ refl refl) refl

-- A node over inputs without their marks

joined_same : (asked : List Name) (ls rs : List Named) (schema : Columns) (told : Told) (s t : Columns) (ts : Plans) → pruned_join asked ls rs schema told s t (unmarked_all ts) ≡ unmarked (pruned_join asked ls rs schema told s t ts)
joined_same [] ls rs schema told s t ts = refl
joined_same (a ∷ asked) ls rs schema told s t ts =
    ap (λ (ss : List Columns). made ss (unmarked_all ts)) (stored_same ts)
    ∙ topped_same (has_right told.args.how) (now (stored_all ts)) (a ∷ asked) (cs (stored_all ts)) (rose tt (join ls rs (cs (stored_all ts)) (narrowed_told (now (stored_all ts)) args told)) ts)
  where
    args : JoinArgs
    args = narrowed_args told.args (a ∷ asked) rs s

    now : List Columns → Name → Name
    now ss = called_now args (column_keys ls) (first_schema ss) (origin_of ls rs told s t)

    cs : List Columns → Columns
    cs ss = first_of_each (join_columns args (column_keys ls) (column_keys rs) (first_schema ss) (first_schema (rest_schemas ss)))

    made : List Columns → Plans → Plan
    made ss ins = topped_if (has_right told.args.how) (now ss) (a ∷ asked) (cs ss) (rose tt (join ls rs (cs ss) (narrowed_told (now ss) args told)) ins)

stacked_same : (es : List Named) (schema : Columns) (options : ProjectionOptions) (ts : Plans) → stacked es schema options (unmarked_all ts) ≡ unmarked (stacked es schema options ts)
stacked_same [] schema options ts = first_same ts
stacked_same (e ∷ es) schema options ts = rw (stored_same ts) refl

node_same : (top : Bool) (asked : List Name) (op : Op) (ss : List Columns) (ts : Plans) → rebuilt top asked (unmarked_op op) ss (unmarked_all ts) ≡ unmarked (rebuilt top asked op ss ts)
node_same top asked (slice offset len) ss ts = refl
node_same top asked (filter predicate) ss ts = refl
node_same top asked (scan sources info hive predicate output kind options) ss ts = scan_same top asked kind
  where
    scan_same : (top : Bool) (asked : List Name) (kind : FileScan) → rebuilt top asked (unmarked_op (scan sources info hive predicate output kind options)) ss (unmarked_all ts) ≡ unmarked (rebuilt top asked (scan sources info hive predicate output kind options) ss ts)
    scan_same top [] kind = refl
    scan_same true (a ∷ asked) kinds.Csv = refl
    scan_same true (a ∷ asked) kinds.NDJson = refl
    scan_same true (a ∷ asked) kinds.Parquet = refl
    scan_same true (a ∷ asked) kinds.Ipc = refl
    scan_same false (a ∷ asked) kinds.Csv = refl
    scan_same false (a ∷ asked) kinds.NDJson = refl
    scan_same false (a ∷ asked) kinds.Parquet = refl
    scan_same false (a ∷ asked) kinds.Ipc = refl
node_same top asked (frame_scan df schema output) ss ts = refl
node_same top asked (simple_projection columns) ss ts = refl
node_same top [] (select es schema options) ss ts = refl
node_same top (a ∷ asked) (select es schema options) ss ts = refl
node_same top [] (hstack es schema options) ss ts = refl
node_same top (a ∷ asked) (hstack es schema options) ss ts = stacked_same (kept_exprs (these (a ∷ asked)) es) schema options ts
node_same top asked (sort keys part options) ss ts = refl
node_same top [] (group_by keys aggs schema ordered options) ss ts = refl
node_same top (a ∷ asked) (group_by keys aggs schema ordered options) ss ts = refl
node_same top asked (join left_on right_on schema told) ss ts = joined_same asked left_on right_on schema told (first_schema ss) (first_schema (rest_schemas ss)) ts
node_same top asked (distinct options) ss ts = refl
node_same top asked (map_function function) ss ts = refl
node_same top asked (sink payload) ss ts = refl
node_same top asked (union options) ss ts = ap (λ (ps : Plans). rose tt (unmarked_op (union options)) ps) (ap (λ (b : Bool). covered_if b asked (unmarked_all ts)) (several_same ts) ∙ covers_same (are_several ts) asked ts)
node_same top [] (hconcat schema options) ss ts = refl
node_same top (a ∷ asked) (hconcat schema options) ss ts = rw (stored_same ts) refl
node_same top asked (cache id hits) ss ts = covered_same asked (rose tt (cache id hits) ts)
node_same top asked invalid ss ts = refl

below_same : (b : Bool) (ts others : Plans) → left_below b (unmarked_all ts) (unmarked_all others) ≡ unmarked_all (left_below b ts others)
below_same true ts others = refl
below_same false ts others = refl

mutual
  pub pruned_same : (top : Bool) (asked : List Name) (p : Plan) → pruned top asked (unmarked p) ≡ unmarked (pruned top asked p)
  pruned_same top asked (rose n op ts) =
      let others : Plans = pruned_all (top_below top op) (asks_plans asked op ts) ts in
      let made : pruned_all (top_below top (unmarked_op op)) (asks_plans asked (unmarked_op op) (unmarked_all ts)) (unmarked_all ts) ≡ unmarked_all others =
      ap₂ (λ (b : Bool) (l : List (List Name)). pruned_all (top && not b) l (unmarked_all ts)) (count_op op) (asks_same asked op ts) ∙ all_same (top_below top op) (asks_plans asked op ts) ts in
      let left : left_below (is_closed (unmarked_op op)) (unmarked_all ts) (pruned_all (top_below top (unmarked_op op)) (asks_plans asked (unmarked_op op) (unmarked_all ts)) (unmarked_all ts)) ≡ unmarked_all (left_below (is_closed op) ts others) =
      ap₂ (λ (b : Bool) (ps : Plans). left_below b (unmarked_all ts) ps) (closed_op op) made ∙ below_same (is_closed op) ts others in
      ap₂ (λ (ss : List Columns) (ps : Plans). rebuilt top asked (unmarked_op op) ss ps) (stored_same ts) left
      ∙ node_same top asked op (stored_all ts) (left_below (is_closed op) ts others)

  all_same : (top : Bool) (lists : List (List Name)) (ts : Plans) → pruned_all top lists (unmarked_all ts) ≡ unmarked_all (pruned_all top lists ts)
  all_same top lists no_roses = refl
  all_same top lists (more (rose n op ts) rest) =
      ap₂ (λ (p : Plan) (ps : Plans). more p ps) (pruned_same top (first_names lists) (rose n op ts))
      (ap (λ (b : Bool). pruned_all (top && not b) (rest_names lists) (unmarked_all rest)) (meet_same (more (rose n op ts) no_roses)) ∙ all_same (top_after top (rose n op ts)) (rest_names lists) rest)
      ∙ sym (one_before (pruned top (first_names lists) (rose n op ts)) (pruned_all (top_after top (rose n op ts)) (rest_names lists) rest))

pub alike_pruned : (top : Bool) (asked : List Name) (p q : Plan) → unmarked p ≡ unmarked q → unmarked (pruned top asked p) ≡ unmarked (pruned top asked q)
alike_pruned top asked p q alike = sym (pruned_same top asked p) ∙ ap (pruned top asked) alike ∙ pruned_same top asked q
