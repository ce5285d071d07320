-- The nodes of a pruned plan make at most the columns that are asked of them.
use Rattle.std.proofs.Common.{◌≡◌, ◌+◌, ◌≤◌, Bool, true, false, List, [], ◌∷◌, length, refl, sym, ap, subst, arith}
use Rattle.plan_core.specs.declared.options.ProjectionOptions.{ProjectionOptions}
use Rattle.plan_core.specs.Columns.{Columns}
use Rattle.plan_tree.specs.Rose.{Roses, rose, no_roses, more}
use Rattle.plan_expr.specs.Exprs.{Named}
use Rattle.plan_ir.specs.Plans.{Op, slice, filter, scan, frame_scan, simple_projection, select, hstack, sort, group_by, join, distinct, map_function, sink, union, hconcat, cache, invalid, Plan}
use Rattle.plan_expr.specs.Leaves.{Name}
use Rattle.plan_meaning.specs.Typing.{first_schema, rest_schemas, schemas, checks, AllHold, AllValid}
use Rattle.plan_meaning.specs.PlanAt.{one_plan}
use Rattle.plan_meaning.specs.Steps.{IsValid}
use Rattle.plan_meaning.specs.Relating.{Asked, all, names, cached}
use Rattle.plan_meaning.specs.Asked.{set_of, kept_exprs, asks as asks_of}
use Rattle.plan_meaning.specs.Counting.{is_closed, stand_ins}
use Rattle.plan_meaning.specs.Work.{reckoned_exprs, made_in, made, own_kept, kept_in, kept}
use Rattle.plan_meaning.proofs.KeptExprs.{kept-all, selected-all}
use Rattle.plan_schema.specs.Stored.{stored_all}
use Rattle.plan_pruned.proofs.JoinWork.{join_made}
use Rattle.plan_pruned.specs.Pruned.{are_several, covered, covered_each, covered_if, left_below, stacked, asks_plans, rebuilt, top_below, top_after, first_names, rest_names, pruned, pruned_all}
use Rattle.plan_pruned.proofs.AskedNames.{sets_of, asks-each}
use Rattle.plan_pruned.proofs.CachedLemmas.{asks-cached, cached_made}

made-more : (p : Plan) (ps : Roses (Unit {0}) Op) → made_in (more p ps) ≡ made p + made_in ps
made-more (rose n op ts) ps = omega arith

one_made : (rs : Roses (Unit {0}) Op) → made (one_plan rs) ≤ made_in rs
one_made no_roses = omega arith
one_made (more r rs) = let e = made-more r rs in omega arith

stacked_made : (es : List Named) (schema : Columns) (options : ProjectionOptions) (rs : Roses (Unit {0}) Op) → made (stacked es schema options rs) ≤ length es + made_in rs
stacked_made [] schema options rs = let h = one_made rs in omega arith
stacked_made (e ∷ es) schema options rs = omega arith

-- a projection on top makes nothing
covered_made : (l : List Name) (p : Plan) → made (covered l p) ≡ made p
covered_made [] p = refl
covered_made (a ∷ l) (rose n op ts) = omega arith

each_made : (l : List Name) (rs : Roses (Unit {0}) Op) → made_in (covered_each l rs) ≡ made_in rs
each_made l no_roses = refl
each_made l (more r rs) =
    let a = made-more (covered l r) (covered_each l rs) in
    let b = made-more r rs in
    let c = covered_made l r in
    let d = each_made l rs in
    omega arith

if_made : (b : Bool) (l : List Name) (rs : Roses (Unit {0}) Op) → made_in (covered_if b l rs) ≡ made_in rs
if_made true l rs = each_made l rs
if_made false l rs = refl

-- per node: what it makes is asked of it
rebuilt_made : (top : Bool) (l : List Name) (op : Op) (ss : List Columns) (rs : Roses (Unit {0}) Op) → made (rebuilt top l op ss rs) ≤ own_kept op (set_of l) + made_in rs
rebuilt_made top l (slice o n) ss rs = omega arith
rebuilt_made top l (frame_scan df schema output) ss rs = omega arith
rebuilt_made top [] (select es schema options) ss rs = let e = ap reckoned_exprs (selected-all es) in omega arith
rebuilt_made top (b ∷ l) (select es schema options) ss rs = omega arith
rebuilt_made top [] (hstack es schema options) ss rs = let e : length (kept_exprs all es) ≡ length es = ap length (kept-all es) in omega arith
rebuilt_made top (b ∷ l) (hstack es schema options) ss rs = let h = stacked_made (kept_exprs (names (b ∷ l)) es) schema options rs in omega arith
rebuilt_made top l (filter p) ss rs = omega arith
rebuilt_made top l (simple_projection cs) ss rs = omega arith
rebuilt_made top l (sort keys part options) ss rs = omega arith
rebuilt_made top [] (group_by keys aggs schema ordered options) ss rs = let e : length (kept_exprs all aggs) ≡ length aggs = ap length (kept-all aggs) in omega arith
rebuilt_made top (b ∷ l) (group_by keys aggs schema ordered options) ss rs = omega arith
rebuilt_made top l (join left_on right_on schema told) ss rs = let e = join_made left_on right_on schema told (first_schema ss) (first_schema (rest_schemas ss)) rs l in omega (arith, e)
rebuilt_made top l (distinct options) ss rs = omega arith
rebuilt_made top l (map_function function) ss rs = omega arith
rebuilt_made top l (sink payload) ss rs = omega arith
rebuilt_made top l (union options) ss rs = let e = if_made (are_several rs) l rs in omega (arith, e)
rebuilt_made top [] (hconcat schema options) ss rs = omega arith
rebuilt_made top (b ∷ l) (hconcat schema options) ss rs = omega arith
rebuilt_made top l (cache id hits) ss rs = let e = covered_made l (rose tt (cache id hits) rs) in omega (arith, e)
rebuilt_made top l invalid ss rs = omega arith
rebuilt_made top [] (scan sources info hive predicate output kind options) ss rs = omega arith
rebuilt_made false (b ∷ l) (scan sources info hive predicate output kind options) ss rs = omega arith
rebuilt_made true (b ∷ l) (scan sources info hive predicate output kind options) ss rs = omega arith

-- a node over inputs that are left as they are below it
left_made : (top : Bool) (l : List Name) (op : Op) (rs ts : Roses (Unit {0}) Op) → AllHold (checks op (schemas ts)) → AllValid ts → made_in rs ≤ kept_in ts (sets_of (asks_plans l op ts)) → made (rebuilt top l op (stored_all ts) (left_below (is_closed op) ts rs)) ≤ own_kept op (set_of l) + kept_in ts (asks_of op (set_of l) (schemas ts) (stand_ins ts (schemas ts)))
left_made top l op rs ts good v h = at (is_closed op) refl
  where
    closed : (o : Op) → is_closed o ≡ true → AllHold (checks o (schemas ts)) → made (rebuilt top l o (stored_all ts) ts) ≤ own_kept o (set_of l) + kept_in ts (asks_of o (set_of l) (schemas ts) (stand_ins ts (schemas ts)))
    closed (cache id hits) e g =
        let k = rebuilt_made top l (cache id hits) (stored_all ts) ts in
        let under : made_in ts ≤ kept_in ts (cached ∷ []) = subst (λ (x : List Asked). made_in ts ≤ kept_in ts x) (sym (asks-cached (cache id hits) ts g)) (cached_made ts v) in
        omega (arith, k, under)
    closed o e g = absurd (cc)

    at : (b : Bool) → is_closed op ≡ b → made (rebuilt top l op (stored_all ts) (left_below b ts rs)) ≤ own_kept op (set_of l) + kept_in ts (asks_of op (set_of l) (schemas ts) (stand_ins ts (schemas ts)))
    at true e = closed op e good
    at false e =
        let k = rebuilt_made top l op (stored_all ts) rs in
        let under : made_in rs ≤ kept_in ts (asks_of op (set_of l) (schemas ts) (stand_ins ts (schemas ts))) = subst (λ (x : List Asked). made_in rs ≤ kept_in ts x) (sym (asks-each l op ts e v)) h in
        omega (arith, k, under)

-- pruned plans make at most what they are asked
all_made : (top : Bool) (lists : List (List Name)) (ts : Roses (Unit {0}) Op) → AllValid ts → made_in (pruned_all top lists ts) ≤ kept_in ts (sets_of lists)
all_made top lists no_roses v = omega arith
all_made top lists (more (rose n op ts) rest) v =
    let l = first_names lists in
    let after = rest_names lists in
    let b = asks_plans l op ts in
    let low = top_below top op in
    let next = top_after top (rose n op ts) in
    let rs = pruned_all low b ts in
    let split : made_in (pruned_all top lists (more (rose n op ts) rest)) ≡ made (pruned top l (rose n op ts)) + made_in (pruned_all next after rest) = made-more (pruned top l (rose n op ts)) (pruned_all next after rest) in
    let here = left_made top l op rs ts v.0 v.1 (all_made low b ts v.1) in
    let others = all_made next after rest v.2 in
    let whole = listed lists in
    omega (arith, split, here, others, whole)
  where
    listed : (ls : List (List Name)) → kept_in (more (rose n op ts) rest) (sets_of ls) ≡ own_kept op (set_of (first_names ls)) + (kept_in ts (asks_of op (set_of (first_names ls)) (schemas ts) (stand_ins ts (schemas ts))) + kept_in rest (sets_of (rest_names ls)))
    listed [] = refl
    listed (l ∷ ls) = refl

-- a pruned plan makes at most the columns that its nodes are asked
pub pruned_made : (top : Bool) (p : Plan) → IsValid p → made (pruned top [] p) ≤ kept p
pruned_made top (rose n op ts) v = all_made top ([] ∷ []) (more (rose n op ts) no_roses) (v.0, v.1, tt)
