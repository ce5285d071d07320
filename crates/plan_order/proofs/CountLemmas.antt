-- Scans of plans, one after another.
use Rattle.std.proofs.Common.{◌≡◌, ◌∙◌, ◌≤◌, ◌<◌, ◌+◌, ℕ, zero, suc, length, max, subst, List, [], ◌∷◌, ◌++◌, append_assoc, append-nil, drop, take, Option, Some, None, refl, sym, ap, ap₂, arith}
use Rattle.std.specs.List.{slice_get}
use Rattle.std.proofs.lemmas.List.{take-append-drop}
use Rattle.std.proofs.lemmas.Option.{slice_get_within}
use Rattle.plan_core.specs.declared.arena.Node.{Node}
use Rattle.plan_tree.specs.Read.{tree_at, trees_at}
use Rattle.plan_tree.specs.Rose.{Roses, join, levels, map_roses, rose, no_roses, more}
use Rattle.plan_tree.specs.Stands.{StandsOnce, Trees}
use Rattle.plan_tree.proofs.Numbers.{size-le}
use Rattle.plan_tree.proofs.ReadLemmas.{trees_at-is}
use Rattle.plan_tree.proofs.SplitLemmas.{gather-append}
use Rattle.plan_tree.proofs.TreeLemmas.{StandsOnce-input, height, height-falls, height-is, height_at, levels-le-size, opened, tallest, tallest-is}
use Rattle.plan_expr.specs.declared.aexpr.AExpr.{AExpr}
use Rattle.plan_ir.specs.declared.ir.IR.{IR}
use Rattle.plan_ir.specs.declared.ir.IR.TheVariants.{Slice, Filter, Scan, DataFrameScan, SimpleProjection, Select, HStack, Sort, GroupBy, Join, Distinct, MapFunction, Sink, Union, HConcat, Cache, Invalid}
use Rattle.plan_ir.specs.Parts.{inputs_of, plan_shape}
use Rattle.plan_ir.specs.Plans.{Op, Plan, slice, filter, scan, frame_scan, simple_projection, select, hstack, sort, group_by, join as join_op, distinct, map_function, sink, union, hconcat, cache, invalid, bare, op_at, plans_at, plans_of}
use Rattle.plan_meaning.specs.PlanAt.{one_plan, plan_at}
use Rattle.plan_order_laws.specs.Counted.{Scans, both_scans, counted_each, counted_scans}
use Rattle.plan_order.specs.Counts.{Adds, under_projection}
use Rattle.plan_pruned.proofs.ListSteps.{take-next}

-- scans of two plans in turn
both-first : (y : Option Scans) → both_scans (Some []) y ≡ y
both-first None = refl
both-first (Some ys) = refl

both-last : (x : Option Scans) → both_scans x (Some []) ≡ x
both-last None = refl
both-last (Some xs) = ap (λ (l : Scans). Some l) (append-nil xs)

both-assoc : (x y z : Option Scans) → both_scans x (both_scans y z) ≡ both_scans (both_scans x y) z
both-assoc None y z = refl
both-assoc (Some xs) None z = refl
both-assoc (Some xs) (Some ys) None = refl
both-assoc (Some xs) (Some ys) (Some zs) = ap (λ (l : Scans). Some l) (sym (append_assoc xs ys zs))

both-none : (x : Option Scans) → both_scans x None ≡ None
both-none None = refl
both-none (Some xs) = refl

-- the scans of an input of a union
counted_one : Plan → Option Scans
counted_one (rose n (simple_projection columns) (more q no_roses)) = counted_scans q
counted_one p = counted_scans p

counted-cons : (p : Plan) (rest : Roses (Unit {0}) Op) → counted_each (more p rest) ≡ both_scans (counted_one p) (counted_each rest)
unfolding counted_one
counted-cons (rose n (simple_projection columns) no_roses) rest = refl
counted-cons (rose n (simple_projection columns) (more q no_roses)) rest = refl
counted-cons (rose n (simple_projection columns) (more q (more r s))) rest = refl
counted-cons (rose n (slice offset len) ts) rest = refl
counted-cons (rose n (filter predicate) ts) rest = refl
counted-cons (rose n (scan sources info hive predicate output kind options) ts) rest = refl
counted-cons (rose n (frame_scan df schema output) ts) rest = refl
counted-cons (rose n (select es schema options) ts) rest = refl
counted-cons (rose n (hstack es schema options) ts) rest = refl
counted-cons (rose n (sort keys part options) ts) rest = refl
counted-cons (rose n (group_by keys aggs schema ordered options) ts) rest = refl
counted-cons (rose n (join_op left_on right_on schema told) ts) rest = refl
counted-cons (rose n (distinct options) ts) rest = refl
counted-cons (rose n (map_function function) ts) rest = refl
counted-cons (rose n (sink payload) ts) rest = refl
counted-cons (rose n (union options) ts) rest = refl
counted-cons (rose n (hconcat schema options) ts) rest = refl
counted-cons (rose n (cache id hits) ts) rest = refl
counted-cons (rose n invalid ts) rest = refl

counted-join : (a b : Roses (Unit {0}) Op) → counted_each (join a b) ≡ both_scans (counted_each a) (counted_each b)
counted-join no_roses b = sym (both-first (counted_each b))
counted-join (more p rest) b =
    counted-cons p (join rest b)
    ∙ ap (both_scans (counted_one p)) (counted-join rest b)
    ∙ both-assoc (counted_one p) (counted_each rest) (counted_each b)
    ∙ ap (λ (x : Option Scans). both_scans x (counted_each b)) (sym (counted-cons p rest))

-- plans at numbers
map-join : {N M : Type 0} {P Q : Type 0} (f : N → M) (g : P → Q) (a b : Roses N P) → map_roses f g (join a b) ≡ join (map_roses f g a) (map_roses f g b)
map-join f g no_roses b = refl
map-join f g (more (rose n p ts) rest) b = ap (λ (r : Roses _ _). more (rose (f n) (g p) (map_roses f g ts)) r) (map-join f g rest b)

plans-join : (lp : List IR) (ex : List AExpr) (ns ms : List Node) → bare (plans_at lp ex (ns ++ ms)) ≡ join (bare (plans_at lp ex ns)) (bare (plans_at lp ex ms))
plans-join lp ex ns ms =
    ap (λ (u : Trees IR). bare (plans_of ex u)) (gather-append plan_shape (tree_at plan_shape lp) ns ms)
    ∙ ap (λ (u : Roses Node Op). bare u) (map-join (λ (n : Node). n) (op_at ex) (trees_at plan_shape lp ns) (trees_at plan_shape lp ms))
    ∙ map-join (λ (n : Node). tt) (λ (op : Op). op) (plans_at lp ex ns) (plans_at lp ex ms)

pub plan-open : (lp : List IR) (ex : List AExpr) (n : Node) (p : IR) → ((t : Trees IR) × StandsOnce plan_shape lp (n ∷ []) t) → slice_get lp n.0 ≡ Some p → bare (plans_at lp ex (n ∷ [])) ≡ more (rose tt (op_at ex p) (bare (plans_at lp ex (inputs_of p)))) no_roses
plan-open lp ex n p h e =
    let o = opened plan_shape lp n p h.0 h.1 e in
    let here : trees_at plan_shape lp (n ∷ []) ≡ more (rose n p o.kids) no_roses = trees_at-is plan_shape lp (n ∷ []) h.0 h.1 ∙ o.is in
    let below : trees_at plan_shape lp (inputs_of p) ≡ o.kids = trees_at-is plan_shape lp (inputs_of p) o.kids o.inputs in
    ap (λ (t : Trees IR). bare (plans_of ex t)) here
    ∙ ap (λ (t : Trees IR). more (rose tt (op_at ex p) (bare (plans_of ex t))) no_roses) (sym below)

pub plan-is : (lp : List IR) (ex : List AExpr) (n : Node) (p : IR) → ((t : Trees IR) × StandsOnce plan_shape lp (n ∷ []) t) → slice_get lp n.0 ≡ Some p → plan_at lp ex n ≡ rose tt (op_at ex p) (bare (plans_at lp ex (inputs_of p)))
plan-is lp ex n p h e = ap one_plan (plan-open lp ex n p h e)

pub plans-one : (lp : List IR) (ex : List AExpr) (n : Node) (p : IR) → ((t : Trees IR) × StandsOnce plan_shape lp (n ∷ []) t) → slice_get lp n.0 ≡ Some p → bare (plans_at lp ex (n ∷ [])) ≡ more (plan_at lp ex n) no_roses
plans-one lp ex n p h e = plan-open lp ex n p h e ∙ ap (λ (r : Plan). more r no_roses) (sym (plan-is lp ex n p h e))

-- where the scans of an input are found
pub stands-below : (lp : List IR) (n : Node) (p : IR) → ((t : Trees IR) × StandsOnce plan_shape lp (n ∷ []) t) → slice_get lp n.0 ≡ Some p → (t : Trees IR) × StandsOnce plan_shape lp (under_projection n p ∷ []) t
stands-below lp n (SimpleProjection j columns) h e = StandsOnce-input plan_shape lp n j (SimpleProjection j columns) 0 h e refl
stands-below lp n (Slice j offset len) h e = h
stands-below lp n (Filter j predicate) h e = h
stands-below lp n (Scan sources info hive predicate output kind options) h e = h
stands-below lp n (DataFrameScan df schema output) h e = h
stands-below lp n (Select j es schema options) h e = h
stands-below lp n (HStack j es schema options) h e = h
stands-below lp n (Sort j keys part options) h e = h
stands-below lp n (GroupBy j keys aggs schema ordered options) h e = h
stands-below lp n (Join left right schema left_on right_on options) h e = h
stands-below lp n (Distinct j options) h e = h
stands-below lp n (MapFunction j function) h e = h
stands-below lp n (Sink j payload) h e = h
stands-below lp n (Union inputs options) h e = h
stands-below lp n (HConcat inputs schema options) h e = h
stands-below lp n (Cache j id hits) h e = h
stands-below lp n Invalid h e = h

pub falls-below : (lp : List IR) (n : Node) (p : IR) → ((t : Trees IR) × StandsOnce plan_shape lp (n ∷ []) t) → slice_get lp n.0 ≡ Some p → height_at plan_shape lp (under_projection n p) ≤ height_at plan_shape lp n
falls-below lp n (SimpleProjection j columns) h e = let l = height-falls plan_shape lp n j (SimpleProjection j columns) h.0 0 h.1 e refl in omega (arith, l)
falls-below lp n (Slice j offset len) h e = omega arith
falls-below lp n (Filter j predicate) h e = omega arith
falls-below lp n (Scan sources info hive predicate output kind options) h e = omega arith
falls-below lp n (DataFrameScan df schema output) h e = omega arith
falls-below lp n (Select j es schema options) h e = omega arith
falls-below lp n (HStack j es schema options) h e = omega arith
falls-below lp n (Sort j keys part options) h e = omega arith
falls-below lp n (GroupBy j keys aggs schema ordered options) h e = omega arith
falls-below lp n (Join left right schema left_on right_on options) h e = omega arith
falls-below lp n (Distinct j options) h e = omega arith
falls-below lp n (MapFunction j function) h e = omega arith
falls-below lp n (Sink j payload) h e = omega arith
falls-below lp n (Union inputs options) h e = omega arith
falls-below lp n (HConcat inputs schema options) h e = omega arith
falls-below lp n (Cache j id hits) h e = omega arith
falls-below lp n Invalid h e = omega arith

counted-below : (lp : List IR) (ex : List AExpr) (n : Node) (p : IR) → ((t : Trees IR) × StandsOnce plan_shape lp (n ∷ []) t) → slice_get lp n.0 ≡ Some p → counted_one (plan_at lp ex n) ≡ counted_scans (plan_at lp ex (under_projection n p))
unfolding counted_one
counted-below lp ex n (SimpleProjection j columns) h e =
    let below = StandsOnce-input plan_shape lp n j (SimpleProjection j columns) 0 h e refl in
    let o = opened plan_shape lp j _ below.0 below.1 (entry below.0 below.1) in
    ap counted_one (plan-is lp ex n (SimpleProjection j columns) h e ∙ ap (λ (ts : Roses (Unit {0}) Op). rose tt (simple_projection columns) ts) (plans-one lp ex j _ below (entry below.0 below.1)))
  where
    first : (t : Trees IR) → StandsOnce plan_shape lp (j ∷ []) t → IR
    first no_roses g = Invalid
    first (more (rose m q kids) rest) g = q

    entry : (t : Trees IR) (g : StandsOnce plan_shape lp (j ∷ []) t) → slice_get lp j.0 ≡ Some (first t g)
    entry no_roses g = absurd g.stands
    entry (more (rose m q kids) rest) g = g.stands.1
counted-below lp ex n (Slice j offset len) h e = ap counted_one (plan-is lp ex n (Slice j offset len) h e) ∙ sym (ap counted_scans (plan-is lp ex n (Slice j offset len) h e))
counted-below lp ex n (Filter j predicate) h e = ap counted_one (plan-is lp ex n (Filter j predicate) h e) ∙ sym (ap counted_scans (plan-is lp ex n (Filter j predicate) h e))
counted-below lp ex n (Scan sources info hive predicate output kind options) h e = ap counted_one (plan-is lp ex n (Scan sources info hive predicate output kind options) h e) ∙ sym (ap counted_scans (plan-is lp ex n (Scan sources info hive predicate output kind options) h e))
counted-below lp ex n (DataFrameScan df schema output) h e = ap counted_one (plan-is lp ex n (DataFrameScan df schema output) h e) ∙ sym (ap counted_scans (plan-is lp ex n (DataFrameScan df schema output) h e))
counted-below lp ex n (Select j es schema options) h e = ap counted_one (plan-is lp ex n (Select j es schema options) h e) ∙ sym (ap counted_scans (plan-is lp ex n (Select j es schema options) h e))
counted-below lp ex n (HStack j es schema options) h e = ap counted_one (plan-is lp ex n (HStack j es schema options) h e) ∙ sym (ap counted_scans (plan-is lp ex n (HStack j es schema options) h e))
counted-below lp ex n (Sort j keys part options) h e = ap counted_one (plan-is lp ex n (Sort j keys part options) h e) ∙ sym (ap counted_scans (plan-is lp ex n (Sort j keys part options) h e))
counted-below lp ex n (GroupBy j keys aggs schema ordered options) h e = ap counted_one (plan-is lp ex n (GroupBy j keys aggs schema ordered options) h e) ∙ sym (ap counted_scans (plan-is lp ex n (GroupBy j keys aggs schema ordered options) h e))
counted-below lp ex n (Join left right schema left_on right_on options) h e = ap counted_one (plan-is lp ex n (Join left right schema left_on right_on options) h e) ∙ sym (ap counted_scans (plan-is lp ex n (Join left right schema left_on right_on options) h e))
counted-below lp ex n (Distinct j options) h e = ap counted_one (plan-is lp ex n (Distinct j options) h e) ∙ sym (ap counted_scans (plan-is lp ex n (Distinct j options) h e))
counted-below lp ex n (MapFunction j function) h e = ap counted_one (plan-is lp ex n (MapFunction j function) h e) ∙ sym (ap counted_scans (plan-is lp ex n (MapFunction j function) h e))
counted-below lp ex n (Sink j payload) h e = ap counted_one (plan-is lp ex n (Sink j payload) h e) ∙ sym (ap counted_scans (plan-is lp ex n (Sink j payload) h e))
counted-below lp ex n (Union inputs options) h e = ap counted_one (plan-is lp ex n (Union inputs options) h e) ∙ sym (ap counted_scans (plan-is lp ex n (Union inputs options) h e))
counted-below lp ex n (HConcat inputs schema options) h e = ap counted_one (plan-is lp ex n (HConcat inputs schema options) h e) ∙ sym (ap counted_scans (plan-is lp ex n (HConcat inputs schema options) h e))
counted-below lp ex n (Cache j id hits) h e = ap counted_one (plan-is lp ex n (Cache j id hits) h e) ∙ sym (ap counted_scans (plan-is lp ex n (Cache j id hits) h e))
counted-below lp ex n Invalid h e = ap counted_one (plan-is lp ex n Invalid h e) ∙ sym (ap counted_scans (plan-is lp ex n Invalid h e))

-- the scans of inputs up to a place, with those of the next one
counted-next : (lp : List IR) (ex : List AExpr) (ns : List Node) (j : ℕ) (i : Node) (p : IR) → ((t : Trees IR) × StandsOnce plan_shape lp (i ∷ []) t) → slice_get lp i.0 ≡ Some p → slice_get ns j ≡ Some i → counted_each (bare (plans_at lp ex (take (j + 1) ns))) ≡ both_scans (counted_each (bare (plans_at lp ex (take j ns)))) (counted_scans (plan_at lp ex (under_projection i p)))
counted-next lp ex ns j i p h e at =
    ap (λ (ms : List Node). counted_each (bare (plans_at lp ex ms))) (take-next ns j i at)
    ∙ ap counted_each (plans-join lp ex (take j ns) (i ∷ []))
    ∙ counted-join (bare (plans_at lp ex (take j ns))) (bare (plans_at lp ex (i ∷ [])))
    ∙ ap (both_scans (counted_each (bare (plans_at lp ex (take j ns)))))
    (ap counted_each (plans-one lp ex i p h e) ∙ counted-cons (plan_at lp ex i) no_roses ∙ both-last (counted_one (plan_at lp ex i)) ∙ counted-below lp ex i p h e)

pub adds-next : (lp : List IR) (ex : List AExpr) (ns : List Node) (j : ℕ) (i : Node) (p : IR) (old mid new : Scans) → ((t : Trees IR) × StandsOnce plan_shape lp (i ∷ []) t) → slice_get lp i.0 ≡ Some p → slice_get ns j ≡ Some i → Adds (counted_each (bare (plans_at lp ex (take j ns)))) old mid → Adds (counted_scans (plan_at lp ex (under_projection i p))) mid new → Adds (counted_each (bare (plans_at lp ex (take (j + 1) ns)))) old new
adds-next lp ex ns j i p old mid new h e at first more_ = (
  first.0 ++ more_.0,
  counted-next lp ex ns j i p h e at ∙ ap₂ both_scans first.1 more_.1,
  more_.2 ∙ ap (λ (l : Scans). l ++ more_.0) first.2 ∙ append_assoc old first.0 more_.0,
)

-- where one has other nodes, all have
pub none-all : (lp : List IR) (ex : List AExpr) (ns : List Node) (j : ℕ) (i : Node) (p : IR) → ((t : Trees IR) × StandsOnce plan_shape lp (i ∷ []) t) → slice_get lp i.0 ≡ Some p → slice_get ns j ≡ Some i → counted_scans (plan_at lp ex (under_projection i p)) ≡ None → counted_each (bare (plans_at lp ex ns)) ≡ None
none-all lp ex ns j i p h e at none =
    ap (λ (ms : List Node). counted_each (bare (plans_at lp ex ms))) (sym (take-append-drop (j + 1) ns))
    ∙ ap counted_each (plans-join lp ex (take (j + 1) ns) (drop (j + 1) ns))
    ∙ counted-join (bare (plans_at lp ex (take (j + 1) ns))) (bare (plans_at lp ex (drop (j + 1) ns)))
    ∙ ap (λ (x : Option Scans). both_scans x (counted_each (bare (plans_at lp ex (drop (j + 1) ns)))))
    (counted-next lp ex ns j i p h e at ∙ ap (both_scans (counted_each (bare (plans_at lp ex (take j ns))))) none ∙ both-none (counted_each (bare (plans_at lp ex (take j ns)))))

pub entry-within : (lp : List IR) (n : Node) → ((t : Trees IR) × StandsOnce plan_shape lp (n ∷ []) t) → n.0 < length lp
entry-within lp n h = go h.0 h.1
  where
    go : (t : Trees IR) → StandsOnce plan_shape lp (n ∷ []) t → n.0 < length lp
    go no_roses g = absurd g.stands
    go (more (rose m p kids) rest) g = slice_get_within lp n.0 p g.stands.1

pub tall-at : (f : Node → ℕ) (ns : List Node) (j : ℕ) (i : Node) → slice_get ns j ≡ Some i → f i ≤ tallest plan_shape f ns
tall-at f [] j i e = cc
tall-at f (n ∷ ns) zero i e = let same : n ≡ i = cc in subst (λ (x : Node). f x ≤ max (f n) (tallest plan_shape f ns)) same (omega arith)
tall-at f (n ∷ ns) (suc j) i e = let l = tall-at f ns j i e in omega (arith, l)

pub tall-below : (lp : List IR) (n : Node) (p : IR) → ((t : Trees IR) × StandsOnce plan_shape lp (n ∷ []) t) → slice_get lp n.0 ≡ Some p → tallest plan_shape (height plan_shape (length lp) lp) (inputs_of p) < height_at plan_shape lp n
tall-below lp n p h e =
    let o = opened plan_shape lp n p h.0 h.1 e in
    let here = height-is plan_shape lp n h.0 h.1 in
    let same : levels h.0 ≡ levels (more (rose n p o.kids) no_roses) = ap (λ (t : Trees IR). levels t) o.is in
    let below : tallest plan_shape (height plan_shape (length lp) lp) (inputs_of p) ≡ levels o.kids = tallest-is plan_shape (length lp) lp (inputs_of p) o.kids o.inputs.stands (omega (arith, levels-le-size plan_shape o.kids, size-le plan_shape lp (inputs_of p) o.kids o.inputs)) in
    omega (arith, here, same, below)

-- all items
pub whole : {A : Type 0} (xs : List A) (n : ℕ) → length xs ≤ n → take n xs ≡ xs
whole [] zero l = refl
whole [] (suc n) l = refl
whole (x ∷ xs) zero l = absurd (omega (arith, l))
whole {A} (x ∷ xs) (suc n) l = ap (λ (ys : List A). x ∷ ys) (whole xs n (omega (arith, l)))

-- other nodes have no scans that can be counted
pub none-other : (ex : List AExpr) (p : IR) (ts : Roses (Unit {0}) Op) → ((sources : _) (info : _) (hive : _) (predicate : _) (output : _) (kind : _) (options : _) → p ≡ Scan sources info hive predicate output kind options → ⊥) → ((inputs : _) (options : _) → p ≡ Union inputs options → ⊥) → counted_scans (rose tt (op_at ex p) ts) ≡ None
none-other ex (Scan sources info hive predicate output kind options) ts a b = absurd (a sources info hive predicate output kind options refl)
none-other ex (Union inputs options) ts a b = absurd (b inputs options refl)
none-other ex (Slice j offset len) ts a b = refl
none-other ex (Filter j predicate) ts a b = refl
none-other ex (DataFrameScan df schema output) ts a b = refl
none-other ex (SimpleProjection j columns) ts a b = refl
none-other ex (Select j es schema options) ts a b = refl
none-other ex (HStack j es schema options) ts a b = refl
none-other ex (Sort j keys part options) ts a b = refl
none-other ex (GroupBy j keys aggs schema ordered options) ts a b = refl
none-other ex (Join left right schema left_on right_on options) ts a b = refl
none-other ex (Distinct j options) ts a b = refl
none-other ex (MapFunction j function) ts a b = refl
none-other ex (Sink j payload) ts a b = refl
none-other ex (HConcat inputs schema options) ts a b = refl
none-other ex (Cache j id hits) ts a b = refl
none-other ex Invalid ts a b = refl

-- the entry of a number over which a tree stands
pub entry-of : (lp : List IR) (n : Node) → ((t : Trees IR) × StandsOnce plan_shape lp (n ∷ []) t) → (p : IR) × (slice_get lp n.0 ≡ Some p)
entry-of lp n h = go h.0 h.1
  where
    go : (t : Trees IR) → StandsOnce plan_shape lp (n ∷ []) t → (p : IR) × (slice_get lp n.0 ≡ Some p)
    go no_roses g = absurd g.stands
    go (more (rose m p kids) rest) g = (p, g.stands.1)
