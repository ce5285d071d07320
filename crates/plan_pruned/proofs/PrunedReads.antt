-- A pruned plan scans the same sources, reads only what is asked, and has few nodes more.
use Rattle.std.proofs.Common.{◌≡◌, ℕ, suc, ◌+◌, ◌≤◌, Bool, true, false, List, [], ◌∷◌, ◌++◌, length, map, Option, Some, None, option_map, refl, sym, ap, ap₂, ◌∙◌, subst, append-nil, append_assoc, arith, ⊎_elim}
use Rattle.std.specs.List.{AllByRecursion, cons_option}
use Rattle.plan_core.specs.declared.data_type.DataType.{DataType}
use Rattle.plan_core.specs.Columns.{Columns, names_of, type_of}
use Rattle.plan_core.specs.Names.{has}
use Rattle.plan_core.specs.declared.options.ProjectionOptions.{ProjectionOptions}
use Rattle.plan_frame.proofs.NameSets.{has_cons, has_first, has_later}
use Rattle.plan_tree.specs.Rose.{Roses, rose, no_roses, more, size}
use Rattle.plan_expr.specs.Exprs.{Named}
use Rattle.plan_ir.specs.Plans.{Op, slice, filter, scan, frame_scan, simple_projection, select, hstack, sort, group_by, join, distinct, map_function, sink, union, hconcat, cache, invalid, Plan}
use Rattle.plan_meaning.specs.Typing.{first_schema, rest_schemas, schemas, checks, AllHold, AllValid}
use Rattle.plan_meaning.specs.PlanAt.{one_plan}
use Rattle.plan_meaning.specs.Steps.{IsValid}
use Rattle.plan_meaning.specs.Relating.{Asked, all, names, cached}
use Rattle.plan_meaning.specs.Asked.{set_of, kept_exprs, asks as asks_of, Site, SiteFair, own_site, sites, sites_of}
use Rattle.plan_meaning.specs.Counting.{is_closed, stand_ins}
use Rattle.plan_meaning.specs.Scans.{scans, scans_in, KeepScans, Keeps, nodes}
use Rattle.plan_meaning.proofs.Fairness.{plan_sites_fair}
use Rattle.plan_meaning.proofs.Keeping.{sites-scans}
use Rattle.plan_expr.specs.Leaves.{Name}
use Rattle.plan_schema.specs.Stored.{stored_all}
use Rattle.plan_pruned.proofs.JoinWork.{join_scans, join_nodes}
use Rattle.plan_pruned.specs.Pruned.{are_several, covered, covered_each, covered_if, left_below, typed_names, stacked, asks_plans, rebuilt, top_below, top_after, first_names, rest_names, pruned, pruned_all}
use Rattle.plan_pruned.specs.Reads.{ReadWithin, tops_each, own_tops, tops_in, tops}
use Rattle.plan_pruned.proofs.AskedNames.{sets_of, asks-each}
use Rattle.plan_pruned.proofs.CachedLemmas.{reads_append, asks-cached, cached_reads}
use Rattle.plan_pruned.proofs.UnionNarrows.{covered_none}

-- names with their types are among the names
typed_asked : (s : Columns) (wanted : List Name) (a : Name) → has (names_of (typed_names s wanted)) a ≡ true → has wanted a ≡ true
typed_asked s [] a i = i
typed_asked s (b ∷ wanted) a i = at (type_of s b) (λ j. typed_asked s wanted a j) i
  where
    at : (o : Option DataType) → (has (names_of (typed_names s wanted)) a ≡ true → has wanted a ≡ true) → has (names_of (cons_option (option_map (λ (d : DataType). (b, d)) o) (typed_names s wanted))) a ≡ true → has (b ∷ wanted) a ≡ true
    at None r i = has_later b wanted a (r i)
    at (Some t) r i = ⊎_elim (λ (q : a ≡ b). subst (λ (x : Name). has (b ∷ wanted) x ≡ true) (sym q) (has_first b wanted)) (λ (q : has (names_of (typed_names s wanted)) a ≡ true). has_later b wanted a (r q)) (has_cons b (names_of (typed_names s wanted)) a i)

-- at most one plan
abbrev pub AtMostOne : Roses (Unit {0}) Op → Type 0
AtMostOne no_roses = Unit {0}
AtMostOne (more p no_roses) = Unit {0}
AtMostOne (more p (more q rest)) = ⊥

-- an addition has at most one input
abbrev pub FewFor : Op → Roses (Unit {0}) Op → Type 0
FewFor (hstack es schema options) rs = AtMostOne rs
FewFor op rs = Unit {0}

pub few_for : (top : Bool) (lists : List (List Name)) (op : Op) (ts : Roses (Unit {0}) Op) → AllHold (checks op (schemas ts)) → FewFor op (pruned_all top lists ts)
few_for top lists (hstack es schema options) no_roses good = tt
few_for top lists (hstack es schema options) (more p no_roses) good = tt
few_for top lists (hstack es schema options) (more (rose n o us) (more (rose m q vs) rest)) good = cc
few_for top lists (slice offset len) ts good = tt
few_for top lists (filter p) ts good = tt
few_for top lists (scan sources info hive predicate output kind options) ts good = tt
few_for top lists (frame_scan df schema output) ts good = tt
few_for top lists (simple_projection cs) ts good = tt
few_for top lists (select es schema options) ts good = tt
few_for top lists (sort keys part options) ts good = tt
few_for top lists (group_by keys aggs schema ordered options) ts good = tt
few_for top lists (join left_on right_on schema told) ts good = tt
few_for top lists (distinct options) ts good = tt
few_for top lists (map_function function) ts good = tt
few_for top lists (sink payload) ts good = tt
few_for top lists (union options) ts good = tt
few_for top lists (hconcat schema options) ts good = tt
few_for top lists (cache id hits) ts good = tt
few_for top lists invalid ts good = tt

one-scans : (rs : Roses (Unit {0}) Op) → AtMostOne rs → scans_in rs ≡ scans (one_plan rs)
one-scans no_roses few = refl
one-scans (more r no_roses) few = append-nil (scans r)
one-scans (more r (more q rest)) few = absurd few

stacked_reads : (es : List Named) (schema : Columns) (options : ProjectionOptions) (rs : Roses (Unit {0}) Op) (zs : List Site) → AtMostOne rs → ReadWithin (scans_in rs) zs → ReadWithin (scans (stacked es schema options rs)) zs
stacked_reads [] schema options rs zs few h = subst (λ (os : List Op). ReadWithin os zs) (one-scans rs few) h
stacked_reads (e ∷ es) schema options rs zs few h = h

-- a projection on top reads nothing
pub covered_scans : (l : List Name) (p : Plan) → scans (covered l p) ≡ scans p
covered_scans [] p = refl
covered_scans (a ∷ l) p = append-nil (scans p)

each_scans : (l : List Name) (rs : Roses (Unit {0}) Op) → scans_in (covered_each l rs) ≡ scans_in rs
each_scans l no_roses = refl
each_scans l (more r rs) = ap₂ (λ (x y : List Op). x ++ y) (covered_scans l r) (each_scans l rs)

if_scans : (b : Bool) (l : List Name) (rs : Roses (Unit {0}) Op) → scans_in (covered_if b l rs) ≡ scans_in rs
if_scans true l rs = each_scans l rs
if_scans false l rs = refl

-- per node that isn't closed: what it scans
rebuilt_reads : (top : Bool) (l : List Name) (op : Op) (ss : List Columns) (rs : Roses (Unit {0}) Op) (zs : List Site) → FewFor op rs → ReadWithin (scans_in rs) zs → ReadWithin (scans (rebuilt top l op ss rs)) (own_site op (set_of l) ++ zs)
rebuilt_reads top l (slice o n) ss rs zs few h = h
rebuilt_reads top [] (select es schema options) ss rs zs few h = h
rebuilt_reads top (b ∷ l) (select es schema options) ss rs zs few h = h
rebuilt_reads top [] (hstack es schema options) ss rs zs few h = h
rebuilt_reads top (b ∷ l) (hstack es schema options) ss rs zs few h = stacked_reads (kept_exprs (names (b ∷ l)) es) schema options rs zs few h
rebuilt_reads top [] (frame_scan df schema output) ss rs zs few h = (refl, (λ a i. i), h)
rebuilt_reads top (b ∷ l) (frame_scan df schema output) ss rs zs few h = (refl, (λ a i. typed_asked schema (b ∷ l) a i), h)
rebuilt_reads top l (filter p) ss rs zs few h = h
rebuilt_reads top l (simple_projection cs) ss rs zs few h = h
rebuilt_reads top l (sort keys part options) ss rs zs few h = h
rebuilt_reads top [] (group_by keys aggs schema ordered options) ss rs zs few h = h
rebuilt_reads top (b ∷ l) (group_by keys aggs schema ordered options) ss rs zs few h = h
rebuilt_reads top l (join left_on right_on schema told) ss rs zs few h = subst (λ (os : List Op). ReadWithin os zs) (sym (join_scans left_on right_on schema told (first_schema ss) (first_schema (rest_schemas ss)) rs l)) h
rebuilt_reads top l (distinct options) ss rs zs few h = h
rebuilt_reads top l (map_function function) ss rs zs few h = h
rebuilt_reads top l (sink payload) ss rs zs few h = h
rebuilt_reads top l (union options) ss rs zs few h = subst (λ (os : List Op). ReadWithin os zs) (sym (if_scans (are_several rs) l rs)) h
rebuilt_reads top [] (hconcat schema options) ss rs zs few h = h
rebuilt_reads top (b ∷ l) (hconcat schema options) ss rs zs few h = h
rebuilt_reads top l (cache id hits) ss rs zs few h = subst (λ (os : List Op). ReadWithin os zs) (sym (covered_scans l (rose tt (cache id hits) rs))) h
rebuilt_reads top l invalid ss rs zs few h = h
rebuilt_reads top [] (scan sources info hive predicate output kind options) ss rs zs few h = ((refl, refl), (λ a i. i), h)
rebuilt_reads false (b ∷ l) (scan sources info hive predicate output kind options) ss rs zs few h = ((refl, refl), (λ a i. i), h)
rebuilt_reads true (b ∷ l) (scan sources info hive predicate output kind options) ss rs zs few h =
    ((refl, refl), (λ a i. i), subst (λ (os : List Op). ReadWithin os zs) (sym (append-nil (scans_in rs))) h)

-- a node over inputs that are left as they are below it
left_reads : (top : Bool) (l : List Name) (op : Op) (rs ts : Roses (Unit {0}) Op) → AllHold (checks op (schemas ts)) → AllValid ts → FewFor op rs → (is_closed op ≡ false → ReadWithin (scans_in rs) (sites ts (sets_of (asks_plans l op ts)))) → ReadWithin (scans (rebuilt top l op (stored_all ts) (left_below (is_closed op) ts rs))) (own_site op (set_of l) ++ sites ts (asks_of op (set_of l) (schemas ts) (stand_ins ts (schemas ts))))
left_reads top l op rs ts good v few h = at (is_closed op) refl
  where
    below : List Site
    below = sites ts (asks_of op (set_of l) (schemas ts) (stand_ins ts (schemas ts)))

    closed : (o : Op) → is_closed o ≡ true → AllHold (checks o (schemas ts)) → ReadWithin (scans (rebuilt top l o (stored_all ts) ts)) (own_site o (set_of l) ++ sites ts (asks_of o (set_of l) (schemas ts) (stand_ins ts (schemas ts))))
    closed (cache id hits) e g = rebuilt_reads top l (cache id hits) (stored_all ts) ts (sites ts (cached ∷ [])) tt (subst (λ (x : List Asked). ReadWithin (scans_in ts) (sites ts x)) (sym (asks-cached (cache id hits) ts g)) (cached_reads ts v))
    closed o e g = absurd (cc)

    at : (b : Bool) → is_closed op ≡ b → ReadWithin (scans (rebuilt top l op (stored_all ts) (left_below b ts rs))) (own_site op (set_of l) ++ below)
    at true e = closed op e good
    at false e = rebuilt_reads top l op (stored_all ts) rs below few (subst (λ (x : List Asked). ReadWithin (scans_in rs) (sites ts x)) (sym (asks-each l op ts e v)) (h e))

-- the scans of pruned plans stand one for one for those of the plans, and read what is asked of them
all_read : (top : Bool) (lists : List (List Name)) (ts : Roses (Unit {0}) Op) → AllValid ts → ReadWithin (scans_in (pruned_all top lists ts)) (sites ts (sets_of lists))
all_read top lists no_roses v = tt
all_read top lists (more (rose n op ts) rest) v =
    let l = first_names lists in
    let after = rest_names lists in
    let a = set_of l in
    let b = asks_plans l op ts in
    let low = top_below top op in
    let next = top_after top (rose n op ts) in
    let own = own_site op a in
    let below = sites ts (asks_of op a (schemas ts) (stand_ins ts (schemas ts))) in
    let others = sites rest (sets_of after) in
    let here = left_reads top l op (pruned_all low b ts) ts v.0 v.1 (few_for low b op ts v.0) (λ opens. all_read low b ts v.1) in
    listed (scans_in (pruned_all top lists (more (rose n op ts) rest))) lists
    (subst (λ (x : List Site). ReadWithin (scans_in (pruned_all top lists (more (rose n op ts) rest))) x) (append_assoc own below others)
    (reads_append (scans (pruned top l (rose n op ts))) (scans_in (pruned_all next after rest)) (own ++ below) others here (all_read next after rest v.2)))
  where
    listed : (os : List Op) (ls : List (List Name)) → ReadWithin os (own_site op (set_of (first_names ls)) ++ (sites ts (asks_of op (set_of (first_names ls)) (schemas ts) (stand_ins ts (schemas ts))) ++ sites rest (sets_of (rest_names ls)))) → ReadWithin os (sites (more (rose n op ts) rest) (sets_of ls))
    listed os [] h = h
    listed os (l ∷ ls) h = h

pub pruned_reads : (top : Bool) (p : Plan) → IsValid p → ReadWithin (scans (pruned top [] p)) (sites_of p)
pruned_reads top (rose n op ts) v =
    subst (λ (os : List Op). ReadWithin os (sites_of (rose n op ts))) (append-nil (scans (pruned top [] (rose n op ts)))) (all_read top ([] ∷ []) (more (rose n op ts) no_roses) (v.0, v.1, tt))

-- what reads only what is asked reads only what was read
read_keeps : (os : List Op) (ss : List Site) → ReadWithin os ss → AllByRecursion SiteFair ss → KeepScans os (map (λ (s : Site). s.at_scan) ss)
read_keeps [] [] h f = tt
read_keeps (o ∷ os) (s ∷ ss) h f = (h.0, (λ a i. f.0.allowed a (h.1 a i)), read_keeps os ss h.2 f.1)
read_keeps [] (s ∷ ss) h f = absurd h
read_keeps (o ∷ os) [] h f = absurd h

-- a pruned plan keeps the scans of the plan
pub pruned_keeps : (top : Bool) (p : Plan) → IsValid p → Keeps (pruned top [] p) p
pruned_keeps top (rose n op ts) v =
    let p : Plan = rose n op ts in
    subst (λ (x : List Op). KeepScans (scans (pruned top [] p)) x) (sites-scans (more p no_roses) (all ∷ []) ∙ append-nil (scans p)) (read_keeps (scans (pruned top [] p)) (sites_of p) (pruned_reads top p v) (plan_sites_fair p v))

-- nodes

size-more : (p : Plan) (ps : Roses (Unit {0}) Op) → size (more p ps) ≡ nodes p + size ps
size-more (rose n op ts) ps = omega arith

one_nodes : (rs : Roses (Unit {0}) Op) → nodes (one_plan rs) ≤ 1 + size rs
one_nodes no_roses = omega arith
one_nodes (more r rs) = let e = size-more r rs in omega arith

stacked_nodes : (es : List Named) (schema : Columns) (options : ProjectionOptions) (rs : Roses (Unit {0}) Op) → nodes (stacked es schema options rs) ≤ 1 + size rs
stacked_nodes [] schema options rs = one_nodes rs
stacked_nodes (e ∷ es) schema options rs = omega arith

-- how many plans there are
abbrev width : Roses (Unit {0}) Op → ℕ
width no_roses = 0
width (more r rs) = suc (width rs)

width_pruned : (top : Bool) (lists : List (List Name)) (ts : Roses (Unit {0}) Op) → width (pruned_all top lists ts) ≡ length (schemas ts)
width_pruned top lists no_roses = refl
width_pruned top lists (more (rose n op us) ts) = ap suc (width_pruned (top_after top (rose n op us)) (rest_names lists) ts)

covered_nodes : (a : Name) (l : List Name) (p : Plan) → nodes (covered (a ∷ l) p) ≡ 1 + nodes p
covered_nodes a l (rose n op ts) = omega arith

each_nodes : (a : Name) (l : List Name) (rs : Roses (Unit {0}) Op) → size (covered_each (a ∷ l) rs) ≡ width rs + size rs
each_nodes a l no_roses = refl
each_nodes a l (more r rs) =
    let e = size-more (covered (a ∷ l) r) (covered_each (a ∷ l) rs) in
    let f = size-more r rs in
    let g = covered_nodes a l r in
    let h = each_nodes a l rs in
    omega arith

union_nodes : (l : List Name) (ss : List Columns) (rs : Roses (Unit {0}) Op) → width rs ≡ length ss → size (covered_if (are_several rs) l rs) ≤ tops_each (set_of l) ss + size rs
union_nodes l [] no_roses w = omega arith
union_nodes l (s ∷ []) (more r no_roses) w = omega arith
union_nodes [] (s ∷ t ∷ ss) (more r (more q rs)) w = let e = ap size (covered_none (more r (more q rs))) in omega (arith, e)
union_nodes (a ∷ l) (s ∷ t ∷ ss) (more r (more q rs)) w = let e = each_nodes a l (more r (more q rs)) in omega (arith, e, w)
union_nodes l [] (more r rs) w = absurd (omega (arith, w))
union_nodes l (s ∷ ss) no_roses w = absurd (omega (arith, w))
union_nodes l (s ∷ []) (more r (more q rs)) w = absurd (omega (arith, w))
union_nodes l (s ∷ t ∷ ss) (more r no_roses) w = absurd (omega (arith, w))

-- per node: a projection more on a scan or a cache that is asked names, and on each of several inputs of a union; and a projection or a selection more on a join
rebuilt_nodes : (top : Bool) (l : List Name) (op : Op) (us ss : List Columns) (rs : Roses (Unit {0}) Op) → (is_closed op ≡ false → width rs ≡ length ss) → nodes (rebuilt top l op us rs) ≤ 1 + own_tops op (set_of l) ss + size rs
rebuilt_nodes top l (slice o n) us ss rs w = omega arith
rebuilt_nodes top l (frame_scan df schema output) us ss rs w = omega arith
rebuilt_nodes top [] (select es schema options) us ss rs w = omega arith
rebuilt_nodes top (b ∷ l) (select es schema options) us ss rs w = omega arith
rebuilt_nodes top [] (hstack es schema options) us ss rs w = omega arith
rebuilt_nodes top (b ∷ l) (hstack es schema options) us ss rs w = let h = stacked_nodes (kept_exprs (names (b ∷ l)) es) schema options rs in omega arith
rebuilt_nodes top l (filter p) us ss rs w = omega arith
rebuilt_nodes top l (simple_projection cs) us ss rs w = omega arith
rebuilt_nodes top l (sort keys part options) us ss rs w = omega arith
rebuilt_nodes top [] (group_by keys aggs schema ordered options) us ss rs w = omega arith
rebuilt_nodes top (b ∷ l) (group_by keys aggs schema ordered options) us ss rs w = omega arith
rebuilt_nodes top [] (join left_on right_on schema told) us ss rs w = omega arith
rebuilt_nodes top (b ∷ l) (join left_on right_on schema told) us ss rs w = let e = join_nodes left_on right_on schema told (first_schema us) (first_schema (rest_schemas us)) rs (b ∷ l) in omega (arith, e)
rebuilt_nodes top l (distinct options) us ss rs w = omega arith
rebuilt_nodes top l (map_function function) us ss rs w = omega arith
rebuilt_nodes top l (sink payload) us ss rs w = omega arith
rebuilt_nodes top l invalid us ss rs w = omega arith
rebuilt_nodes top l (union options) us ss rs w = let e = union_nodes l ss rs (w refl) in omega (arith, e)
rebuilt_nodes top [] (hconcat schema options) us ss rs w = omega arith
rebuilt_nodes top (b ∷ l) (hconcat schema options) us ss rs w = omega arith
rebuilt_nodes top [] (cache id hits) us ss rs w = omega arith
rebuilt_nodes top (b ∷ l) (cache id hits) us ss rs w = omega arith
rebuilt_nodes top [] (scan sources info hive predicate output kind options) us ss rs w = omega arith
rebuilt_nodes false (b ∷ l) (scan sources info hive predicate output kind options) us ss rs w = omega arith
rebuilt_nodes true (b ∷ l) (scan sources info hive predicate output kind options) us ss rs w = omega arith

-- a node over inputs that are left as they are below it
left_nodes : (top : Bool) (l : List Name) (op : Op) (rs ts : Roses (Unit {0}) Op) → AllValid ts → width rs ≡ length (schemas ts) → size rs ≤ size ts + tops_in ts (sets_of (asks_plans l op ts)) → nodes (rebuilt top l op (stored_all ts) (left_below (is_closed op) ts rs)) ≤ 1 + own_tops op (set_of l) (schemas ts) + (size ts + tops_in ts (asks_of op (set_of l) (schemas ts) (stand_ins ts (schemas ts))))
left_nodes top l op rs ts v w h = at (is_closed op) refl
  where
    at : (b : Bool) → is_closed op ≡ b → nodes (rebuilt top l op (stored_all ts) (left_below b ts rs)) ≤ 1 + own_tops op (set_of l) (schemas ts) + (size ts + tops_in ts (asks_of op (set_of l) (schemas ts) (stand_ins ts (schemas ts))))
    at true e = let k = rebuilt_nodes top l op (stored_all ts) (schemas ts) ts (λ (opens : is_closed op ≡ false). cc) in omega (arith, k)
    at false e =
        let k = rebuilt_nodes top l op (stored_all ts) (schemas ts) rs (λ opens. w) in
        let under : size rs ≤ size ts + tops_in ts (asks_of op (set_of l) (schemas ts) (stand_ins ts (schemas ts))) = subst (λ (x : List Asked). size rs ≤ size ts + tops_in ts x) (sym (asks-each l op ts e v)) h in
        omega (arith, k, under)

all_nodes : (top : Bool) (lists : List (List Name)) (ts : Roses (Unit {0}) Op) → AllValid ts → size (pruned_all top lists ts) ≤ size ts + tops_in ts (sets_of lists)
all_nodes top lists no_roses v = omega arith
all_nodes top lists (more (rose n op ts) rest) v =
    let l = first_names lists in
    let after = rest_names lists in
    let b = asks_plans l op ts in
    let low = top_below top op in
    let next = top_after top (rose n op ts) in
    let rs = pruned_all low b ts in
    let split : size (pruned_all top lists (more (rose n op ts) rest)) ≡ nodes (pruned top l (rose n op ts)) + size (pruned_all next after rest) = size-more (pruned top l (rose n op ts)) (pruned_all next after rest) in
    let here = left_nodes top l op rs ts v.1 (width_pruned low b ts) (all_nodes low b ts v.1) in
    let others = all_nodes next after rest v.2 in
    let whole = listed lists in
    omega (arith, split, here, others, whole)
  where
    listed : (ls : List (List Name)) → tops_in (more (rose n op ts) rest) (sets_of ls) ≡ own_tops op (set_of (first_names ls)) (schemas ts) + (tops_in ts (asks_of op (set_of (first_names ls)) (schemas ts) (stand_ins ts (schemas ts))) + tops_in rest (sets_of (rest_names ls)))
    listed [] = refl
    listed (l ∷ ls) = refl

pub pruned_nodes : (top : Bool) (p : Plan) → IsValid p → nodes (pruned top [] p) ≤ nodes p + tops p all
pruned_nodes top (rose n op ts) v = all_nodes top ([] ∷ []) (more (rose n op ts) no_roses) (v.0, v.1, tt)
