-- Each cache of a pruned plan is one of the plan: pruning leaves what is below a cache, and makes none.
use Rattle.std.proofs.Common.{Bool, true, false, cond, List, [], ◌∷◌, ◌++◌, Option, None, Some, inl, inr, subst, append-nil}
use Rattle.plan_core.specs.Columns.{Columns, names_of}
use Rattle.plan_core.specs.Names.{has}
use Rattle.plan_core.specs.declared.options.ProjectionOptions.{ProjectionOptions}
use Rattle.std.specs.List.{list_all}
use Rattle.plan_tree.specs.Rose.{Roses, rose, no_roses, more}
use Rattle.plan_expr.specs.Exprs.{Named}
use Rattle.plan_expr.specs.Leaves.{Name}
use Rattle.plan_join.specs.Naming.{has_right}
use Rattle.plan_join.specs.Told.{Told}
use Rattle.plan_ir.specs.Plans.{Op, slice, filter, scan, frame_scan, simple_projection, select, hstack, sort, group_by, join, distinct, map_function, sink, union, hconcat, cache, invalid, Plan}
use Rattle.plan_meaning.specs.Asked.{kept_exprs}
use Rattle.plan_meaning.specs.Caches.{AreShared, CacheOf, IsCacheOf, caches, caches_in, own_cache}
use Rattle.plan_meaning.specs.Counting.{is_closed}
use Rattle.plan_meaning.specs.PlanAt.{one_plan}
use Rattle.plan_meaning.specs.Relating.{names as these}
use Rattle.plan_meaning.specs.Typing.{first_schema, rest_schemas}
use Rattle.plan_schema.specs.Stored.{stored_all}
use Rattle.plan_pruned.specs.JoinPruned.{are_called_alike, columns_left, join_left, name_now, pruned_join, topped_if}
use Rattle.plan_pruned.specs.Pruned.{are_several, asked_columns, asks_plans, covered, covered_each, covered_if, first_names, left_below, projected_to, pruned, pruned_all, rebuilt, rest_names, stacked, top_after, top_below}

abbrev Plans : Type 0
Plans = Roses (Unit {0}) Op

-- each of these caches is one of those
abbrev pub Among : List CacheOf → List CacheOf → Type 0
Among cs ds = (c : CacheOf) → IsCacheOf c cs → IsCacheOf c ds

pub first_of : (cs ds : List CacheOf) → Among cs (cs ++ ds)
first_of (d ∷ cs) ds c (inl e) = inl e
first_of (d ∷ cs) ds c (inr a) = inr (first_of cs ds c a)
first_of [] ds c a = absurd a

pub rest_of : (cs ds : List CacheOf) → Among ds (cs ++ ds)
rest_of [] ds c a = a
rest_of (d ∷ cs) ds c a = inr (rest_of cs ds c a)

pub both_of : (cs ds es fs : List CacheOf) → Among cs es → Among ds fs → Among (cs ++ ds) (es ++ fs)
both_of [] ds es fs h k c a = rest_of es fs c (k c a)
both_of (d ∷ cs) ds es fs h k c (inl e) = first_of es fs c (h c (inl e))
both_of (d ∷ cs) ds es fs h k c (inr a) = both_of cs ds es fs (λ x b. h x (inr b)) k c a

-- what stands alone below a node
pub alone : (cs : List CacheOf) → Among (cs ++ []) cs
alone cs c a = subst (λ (ds : List CacheOf). IsCacheOf c ds) (append-nil cs) a

-- A plan with something on top has its caches

one_caches : (ts : Plans) → Among (caches (one_plan ts)) (caches_in ts)
one_caches no_roses c a = a
one_caches (more p rest) c a = first_of (caches p) (caches_in rest) c a

pub covered_caches : (asked : List Name) (p : Plan) → Among (caches (covered asked p)) (caches p)
covered_caches asked p = at (asked_columns asked (first_schema (stored_all (more p no_roses))))
  where
    at : (o : Option Columns) → Among (caches (projected_to o p)) (caches p)
    at None c a = a
    at (Some columns) c a = alone (caches p) c a

each_caches : (asked : List Name) (ts : Plans) → Among (caches_in (covered_each asked ts)) (caches_in ts)
each_caches asked no_roses c a = a
each_caches asked (more p rest) c a = both_of (caches (covered asked p)) (caches_in (covered_each asked rest)) (caches p) (caches_in rest) (covered_caches asked p) (each_caches asked rest) c a

if_caches : (b : Bool) (asked : List Name) (ts : Plans) → Among (caches_in (covered_if b asked ts)) (caches_in ts)
if_caches true asked ts c a = each_caches asked ts c a
if_caches false asked ts c a = a

either_caches : (b : Bool) (p q : Plan) (cs : List CacheOf) → Among (caches p) cs → Among (caches q) cs → Among (caches (cond b p q)) cs
either_caches true p q cs h k = h
either_caches false p q cs h k = k

topped_caches : (b : Bool) (now : Name → Name) (asked : List Name) (cs : Columns) (p : Plan) → Among (caches (topped_if b now asked cs p)) (caches p)
topped_caches false now asked cs p c a = a
topped_caches true now asked cs p c a = either_caches (are_called_alike now asked) _ _ (caches p) (either_caches (list_all (has asked) (names_of cs)) _ _ (caches p) (λ d b. b) (alone (caches p))) (alone (caches p)) c a

joined_caches : (asked : List Name) (ls rs : List Named) (schema : Columns) (told : Told) (s t : Columns) (ts : Plans) → Among (caches (pruned_join asked ls rs schema told s t ts)) (caches_in ts)
joined_caches [] ls rs schema told s t ts c a = a
joined_caches (b ∷ asked) ls rs schema told s t ts c a = topped_caches (has_right told.args.how) (name_now (b ∷ asked) ls rs told s t ts) (b ∷ asked) (columns_left (b ∷ asked) ls rs told s t ts) (join_left (b ∷ asked) ls rs told s t ts) c a

stacked_caches : (es : List Named) (schema : Columns) (options : ProjectionOptions) (ts : Plans) → Among (caches (stacked es schema options ts)) (caches_in ts)
stacked_caches [] schema options ts c a = one_caches ts c a
stacked_caches (e ∷ es) schema options ts c a = a

-- a node over inputs has their caches, and itself if it is one
node_caches : (top : Bool) (asked : List Name) (op : Op) (ss : List Columns) (ts : Plans) → Among (caches (rebuilt top asked op ss ts)) (own_cache op ts ++ caches_in ts)
node_caches top asked (slice offset len) ss ts c a = a
node_caches top asked (filter predicate) ss ts c a = a
node_caches top [] (scan sources info hive predicate output kind options) ss ts c a = a
node_caches true (b ∷ asked) (scan sources info hive predicate output kind options) ss ts c a = alone (caches_in ts) c a
node_caches false (b ∷ asked) (scan sources info hive predicate output kind options) ss ts c a = a
node_caches top asked (frame_scan df schema output) ss ts c a = a
node_caches top asked (simple_projection columns) ss ts c a = a
node_caches top [] (select es schema options) ss ts c a = a
node_caches top (b ∷ asked) (select es schema options) ss ts c a = a
node_caches top [] (hstack es schema options) ss ts c a = a
node_caches top (b ∷ asked) (hstack es schema options) ss ts c a = stacked_caches (kept_exprs (these (b ∷ asked)) es) schema options ts c a
node_caches top asked (sort keys part options) ss ts c a = a
node_caches top [] (group_by keys aggs schema ordered options) ss ts c a = a
node_caches top (b ∷ asked) (group_by keys aggs schema ordered options) ss ts c a = a
node_caches top asked (join left_on right_on schema told) ss ts c a = joined_caches asked left_on right_on schema told (first_schema ss) (first_schema (rest_schemas ss)) ts c a
node_caches top asked (distinct options) ss ts c a = a
node_caches top asked (map_function function) ss ts c a = a
node_caches top asked (sink payload) ss ts c a = a
node_caches top asked (union options) ss ts c a = if_caches (are_several ts) asked ts c a
node_caches top [] (hconcat schema options) ss ts c a = a
node_caches top (b ∷ asked) (hconcat schema options) ss ts c a = a
node_caches top asked (cache id hits) ss ts c a = covered_caches asked (rose tt (cache id hits) ts) c a
node_caches top asked invalid ss ts c a = a

-- a cache stays over what was below it, and another node stands over what was pruned
left_caches : (op : Op) (ts others : Plans) → Among (caches_in others) (caches_in ts) → Among (own_cache op (left_below (is_closed op) ts others) ++ caches_in (left_below (is_closed op) ts others)) (own_cache op ts ++ caches_in ts)
left_caches (cache id hits) ts others h c a = a
left_caches op ts others h c a = h c a

mutual
  pub pruned_caches : (top : Bool) (asked : List Name) (p : Plan) → Among (caches (pruned top asked p)) (caches p)
  pruned_caches top asked (rose n op ts) c a =
      let others : Plans = pruned_all (top_below top op) (asks_plans asked op ts) ts in
      left_caches op ts others (all_caches (top_below top op) (asks_plans asked op ts) ts) c (node_caches top asked op (stored_all ts) (left_below (is_closed op) ts others) c a)

  all_caches : (top : Bool) (lists : List (List Name)) (ts : Plans) → Among (caches_in (pruned_all top lists ts)) (caches_in ts)
  all_caches top lists no_roses c a = a
  all_caches top lists (more p rest) c a =
      both_of (caches (pruned top (first_names lists) p)) (caches_in (pruned_all (top_after top p) (rest_names lists) rest)) (caches p) (caches_in rest) (pruned_caches top (first_names lists) p) (all_caches (top_after top p) (rest_names lists) rest) c a

pub shared_pruned : (top : Bool) (asked : List Name) (p : Plan) → AreShared p → AreShared (pruned top asked p)
shared_pruned top asked p h c d a b = h c d (pruned_caches top asked p c a) (pruned_caches top asked p d b)
