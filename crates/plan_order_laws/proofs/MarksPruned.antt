-- A pruned plan has the joins and unions of the plan, one for one, with their marks.
use Rattle.std.proofs.Common.{◌≡◌, Bool, true, false, cond, List, [], ◌∷◌, ◌++◌, Option, None, Some, refl, sym, ap, ap₂, ◌∙◌, append-nil, append_assoc}
use Rattle.std.specs.List.{list_all}
use Rattle.plan_core.specs.Columns.{Columns, names_of}
use Rattle.plan_core.specs.Names.{has}
use Rattle.plan_core.specs.declared.options.ProjectionOptions.{ProjectionOptions}
use Rattle.plan_tree.specs.Rose.{Roses, rose, no_roses, more}
use Rattle.plan_expr.specs.Exprs.{Named}
use Rattle.plan_expr.specs.Leaves.{Name}
use Rattle.plan_join.specs.Naming.{has_right}
use Rattle.plan_join.specs.Told.{Told}
use Rattle.plan_ir.specs.Plans.{Op, slice, filter, scan, frame_scan, simple_projection, select, hstack, sort, group_by, join, distinct, map_function, sink, union, hconcat, cache, invalid, Plan}
use Rattle.plan_meaning.specs.Asked.{kept_exprs}
use Rattle.plan_meaning.specs.Counting.{is_closed}
use Rattle.plan_meaning.specs.PlanAt.{one_plan}
use Rattle.plan_meaning.specs.Relating.{names as these}
use Rattle.plan_meaning.specs.Steps.{IsValid}
use Rattle.plan_meaning.specs.Typing.{AllValid, first_schema, rest_schemas}
use Rattle.plan_pruned.specs.JoinPruned.{are_called_alike, columns_left, join_left, name_now, pruned_join, topped_if}
use Rattle.plan_pruned.specs.Pruned.{are_several, asked_columns, asks_plans, covered, covered_each, covered_if, first_names, left_below, projected_to, pruned, pruned_all, rebuilt, rest_names, stacked, top_after, top_below}
use Rattle.plan_pruned.proofs.PrunedReads.{AtMostOne, FewFor, few_for}
use Rattle.plan_schema.specs.Stored.{stored_all}
use Rattle.plan_order_laws.specs.SideBySide.{marks, marks_in, own_mark}

abbrev Plans : Type 0
Plans = Roses (Unit {0}) Op

pub marks_more : (p : Plan) (rest : Plans) → marks_in (more p rest) ≡ marks p ++ marks_in rest
marks_more (rose n op ts) rest = sym (append_assoc (own_mark op) (marks_in ts) (marks_in rest))

pub marks_one : (p : Plan) → marks_in (more p no_roses) ≡ marks p
marks_one p = marks_more p no_roses ∙ append-nil (marks p)

-- Projections on top have none

pub covered_marks : (l : List Name) (p : Plan) → marks (covered l p) ≡ marks p
covered_marks l p = at (asked_columns l (first_schema (stored_all (more p no_roses))))
  where
    at : (o : Option Columns) → marks (projected_to o p) ≡ marks p
    at None = refl
    at (Some cs) = marks_one p

each_marks : (l : List Name) (ts : Plans) → marks_in (covered_each l ts) ≡ marks_in ts
each_marks l no_roses = refl
each_marks l (more p rest) = marks_more (covered l p) (covered_each l rest) ∙ ap₂ (λ (x y : List Bool). x ++ y) (covered_marks l p) (each_marks l rest) ∙ sym (marks_more p rest)

if_marks : (b : Bool) (l : List Name) (ts : Plans) → marks_in (covered_if b l ts) ≡ marks_in ts
if_marks true l ts = each_marks l ts
if_marks false l ts = refl

either_marks : (b : Bool) (p q : Plan) (ms : List Bool) → marks p ≡ ms → marks q ≡ ms → marks (cond b p q) ≡ ms
either_marks true p q ms h k = h
either_marks false p q ms h k = k

topped_marks : (b : Bool) (now : Name → Name) (l : List Name) (cs : Columns) (p : Plan) → marks (topped_if b now l cs p) ≡ marks p
topped_marks false now l cs p = refl
topped_marks true now l cs p = either_marks (are_called_alike now l) _ _ (marks p) (either_marks (list_all (has l) (names_of cs)) _ _ (marks p) refl (marks_one p)) (marks_one p)

joined_marks : (l : List Name) (ls rs : List Named) (schema : Columns) (told : Told) (s t : Columns) (ts : Plans) → marks (pruned_join l ls rs schema told s t ts) ≡ told.allow_parallel ∷ marks_in ts
joined_marks [] ls rs schema told s t ts = refl
joined_marks (a ∷ l) ls rs schema told s t ts = topped_marks (has_right told.args.how) (name_now (a ∷ l) ls rs told s t ts) (a ∷ l) (columns_left (a ∷ l) ls rs told s t ts) (join_left (a ∷ l) ls rs told s t ts)

one_marks : (rs : Plans) → AtMostOne rs → marks (one_plan rs) ≡ marks_in rs
one_marks no_roses few = refl
one_marks (more r no_roses) few = sym (marks_one r)
one_marks (more r (more q rest)) few = absurd few

stacked_marks : (es : List Named) (schema : Columns) (options : ProjectionOptions) (rs : Plans) → AtMostOne rs → marks (stacked es schema options rs) ≡ marks_in rs
stacked_marks [] schema options rs few = one_marks rs few
stacked_marks (e ∷ es) schema options rs few = refl

-- Nodes

node_marks : (top : Bool) (l : List Name) (op : Op) (ss : List Columns) (rs : Plans) → FewFor op rs → marks (rebuilt top l op ss rs) ≡ own_mark op ++ marks_in rs
node_marks top l (slice offset len) ss rs few = refl
node_marks top l (filter predicate) ss rs few = refl
node_marks top [] (scan sources info hive predicate output kind options) ss rs few = refl
node_marks true (b ∷ l) (scan sources info hive predicate output kind options) ss rs few = append-nil (marks_in rs)
node_marks false (b ∷ l) (scan sources info hive predicate output kind options) ss rs few = refl
node_marks top l (frame_scan df schema output) ss rs few = refl
node_marks top l (simple_projection columns) ss rs few = refl
node_marks top [] (select es schema options) ss rs few = refl
node_marks top (b ∷ l) (select es schema options) ss rs few = refl
node_marks top [] (hstack es schema options) ss rs few = refl
node_marks top (b ∷ l) (hstack es schema options) ss rs few = stacked_marks (kept_exprs (these (b ∷ l)) es) schema options rs few
node_marks top l (sort keys part options) ss rs few = refl
node_marks top [] (group_by keys aggs schema ordered options) ss rs few = refl
node_marks top (b ∷ l) (group_by keys aggs schema ordered options) ss rs few = refl
node_marks top l (join left_on right_on schema told) ss rs few = joined_marks l left_on right_on schema told (first_schema ss) (first_schema (rest_schemas ss)) rs
node_marks top l (distinct options) ss rs few = refl
node_marks top l (map_function function) ss rs few = refl
node_marks top l (sink payload) ss rs few = refl
node_marks top l (union options) ss rs few = ap (λ (ms : List Bool). options.parallel ∷ ms) (if_marks (are_several rs) l rs)
node_marks top [] (hconcat schema options) ss rs few = refl
node_marks top (b ∷ l) (hconcat schema options) ss rs few = refl
node_marks top l (cache id hits) ss rs few = covered_marks l (rose tt (cache id hits) rs)
node_marks top l invalid ss rs few = refl

few_left : (op : Op) (ts rs : Plans) → FewFor op rs → FewFor op (left_below (is_closed op) ts rs)
few_left (hstack es schema options) ts rs few = few
few_left op ts rs few = tt

left_marks : (b : Bool) (ts rs : Plans) → marks_in rs ≡ marks_in ts → marks_in (left_below b ts rs) ≡ marks_in ts
left_marks true ts rs e = refl
left_marks false ts rs e = e

mutual
  pub pruned_marks : (top : Bool) (l : List Name) (p : Plan) → IsValid p → marks (pruned top l p) ≡ marks p
  pruned_marks top l (rose n op ts) v =
      let low = top_below top op in
      let lists = asks_plans l op ts in
      let rs = pruned_all low lists ts in
      node_marks top l op (stored_all ts) (left_below (is_closed op) ts rs) (few_left op ts rs (few_for low lists op ts v.0))
      ∙ ap (λ (ms : List Bool). own_mark op ++ ms) (left_marks (is_closed op) ts rs (all_marks low lists ts v.1))

  all_marks : (top : Bool) (lists : List (List Name)) (ts : Plans) → AllValid ts → marks_in (pruned_all top lists ts) ≡ marks_in ts
  all_marks top lists no_roses v = refl
  all_marks top lists (more (rose n op us) rest) v =
      let p : Plan = rose n op us in
      marks_more (pruned top (first_names lists) p) (pruned_all (top_after top p) (rest_names lists) rest)
      ∙ ap₂ (λ (x y : List Bool). x ++ y) (pruned_marks top (first_names lists) (rose n op us) (v.0, v.1)) (all_marks (top_after top p) (rest_names lists) rest v.2)
      ∙ sym (marks_more p rest)
