-- A closed node is pruned by its step: it goes back over what is below it, a cache under a projection to the asked names.
use Rattle.std.proofs.Common.{◌≡◌, ◌||◌, ◌&&◌, Bool, true, false, not, ℕ, List, [], ◌∷◌, length, Option, Some, refl, sym, ap, ◌∙◌, append-nil}
use Rattle.std.specs.List.{slice_get, slice_set}
use Rattle.plan_core.specs.declared.arena.Node.{Node}
use Rattle.plan_core.specs.Columns.{Columns}
use Rattle.plan_tree.specs.Rose.{Roses, rose, no_roses, more}
use Rattle.plan_tree.specs.Stands.{Trees, StandsOnce}
use Rattle.plan_tree.proofs.TreeLemmas.{opened}
use Rattle.plan_tree.proofs.ReadLemmas.{trees_at-is}
use Rattle.plan_tree.proofs.Frames.{Rewrites-refl, Rewrites-back, StandsOnce-set}
use Rattle.plan_expr.specs.declared.aexpr.AExpr.{AExpr}
use Rattle.plan_expr.specs.Leaves.{Name}
use Rattle.plan_ir.specs.declared.ir.IR.{IR}
use Rattle.plan_ir.specs.declared.ir.IR.TheVariants.{Slice, Filter, Scan, DataFrameScan, SimpleProjection, Select, HStack, Sort, GroupBy, Join, Distinct, MapFunction, Sink, Union, HConcat, Cache, Invalid}
use Rattle.plan_ir.specs.Parts.{plan_shape, inputs_of, is_invalid, roots_in}
use Rattle.plan_ir.specs.Plans.{Op, op_at, plans_of, bare}
use Rattle.plan_meaning.specs.Typing.{first_schema}
use Rattle.plan_meaning.specs.Counting.{is_closed, is_count, meet_count}
use Rattle.plan_schema.specs.Stored.{stored_all}
use Rattle.plan_pruned.specs.Pruned.{asked_columns, asks_plans, left_below, pruned_all, rebuilt, top_below, typed_names}
use Rattle.plan_prune_parts.specs.declared.step.Step.TheVariants.{Closed}
use Rattle.plan_prune.specs.Prunes.{MarksAt, PrunesAt}
use Rattle.plan_prune_parts.specs.Tops.{with_columns_on}
use Rattle.plan_prune_parts.specs.Said.{columns_at}
use Rattle.plan_prune_steps.specs.Steps.{step_of}
use Rattle.plan_prune_parts.proofs.PlaceLemmas.{place_equal, place_same}
use Rattle.plan_prune.proofs.PruneLemmas.{goes_under, under}

-- what is left below a closed node is what was there
left_closed : (op : Op) (kids others : Roses (Unit {0}) Op) → is_closed op ≡ true → kids ≡ left_below (is_closed op) kids others
left_closed op kids others closed = ap (λ (b : Bool). left_below b kids others) (sym closed)

-- a node that goes back as it was, over what was below it
module _ (a b : List IR) (ex : List AExpr) (n : Node) (p d : IR) (e : slice_get a n.0 ≡ Some p) (taken : b ≡ slice_set a n.0 d) where
  -- is pruned, where it is closed and would be rebuilt so
  pub goes_back : (top : Bool) (asked : List Name) → is_closed (op_at ex p) ≡ true → is_invalid p ≡ false → ((kids : Roses (Unit {0}) Op) → rose tt (op_at ex p) kids ≡ rebuilt top asked (op_at ex p) (stored_all kids) kids) → PrunesAt top asked a (slice_set b n.0 p) ex ex n
  goes_back top asked closed valid is t h =
      let o = opened plan_shape a n p t h e in
      let under : StandsOnce plan_shape b (inputs_of p) o.kids = rw taken (StandsOnce-set plan_shape a (inputs_of p) o.kids n.0 d o.inputs o.above) in
      let kids : Roses (Unit {0}) Op = bare (plans_of ex o.kids) in
      rw o.is (record {
        trees = more (rose n p o.kids) no_roses;
        rewrites = Rewrites-back plan_shape a b b n p p d o.kids o.kids (rw o.is at h) taken (Rewrites-refl plan_shape b (inputs_of p) o.kids under) refl valid;
        exprs = place_same ex (roots_in (more (rose n p o.kids) no_roses));
        pruned =
            ap (λ r. more r no_roses) (is kids)
            ∙ ap (λ (f : Roses (Unit {0}) Op). more (rebuilt top asked (op_at ex p) (stored_all kids) f) no_roses) (left_closed (op_at ex p) kids (pruned_all (top_below top (op_at ex p)) (asks_plans asked (op_at ex p) kids) kids) closed);
      })

  -- counts no rows, where it is closed and doesn't itself
  counts_none : is_closed (op_at ex p) ≡ true → (before mid : Bool) → mid ≡ (before || is_count (op_at ex p)) → MarksAt before mid a ex n
  counts_none closed before mid is t h =
      let o = opened plan_shape a n p t h e in
      let k : Bool = meet_count (bare (plans_of ex o.kids)) in
      is
      ∙ marked before (is_count (op_at ex p)) k (is_closed (op_at ex p)) closed
      ∙ ap (λ (u : Trees IR). before || meet_count (bare (plans_of ex u))) (sym o.is)
    where
      marked : (x y z c : Bool) → c ≡ true → (x || y) ≡ (x || (y || ((not c && z) || false)))
      marked x y z false e = cc
      marked true y z true e = refl
      marked false true z true e = refl
      marked false false z true e = refl

-- a cache goes back, under a projection to the asked names
cache_covered : (top : Bool) (asked : List Name) (a b : List IR) (ex : List AExpr) (n i : Node) (id hits : ℕ) (d : IR) → slice_get a n.0 ≡ Some (Cache i id hits) → b ≡ slice_set a n.0 d → PrunesAt top asked a (with_columns_on (asked_columns asked (columns_at b ex i)) b n (Cache i id hits)) ex ex n
cache_covered top [] a b ex n i id hits d e taken t h = goes_back a b ex n (Cache i id hits) d e taken top [] refl refl (λ kids. refl) t h
cache_covered top (x ∷ asked) a b ex n i id hits d e taken t h =
    let p : IR = Cache i id hits in
    let o = opened plan_shape a n p t h e in
    let under_it : StandsOnce plan_shape b (i ∷ []) o.kids = rw taken (StandsOnce-set plan_shape a (i ∷ []) o.kids n.0 d o.inputs o.above) in
    let cs : Columns = typed_names (columns_at b ex i) (x ∷ asked) in
    let m : Node = record { 0 = length b } in
    let kids : Roses (Unit {0}) Op = bare (plans_of ex o.kids) in
    let columns : columns_at b ex i ≡ first_schema (stored_all kids) = ap (λ (u : Trees IR). first_schema (stored_all (bare (plans_of ex u)))) (trees_at-is plan_shape b (i ∷ []) o.kids under_it) in
    rw o.is (record {
      trees = under n m cs p o.kids;
      rewrites = goes_under a b n p p d o.kids cs (rw o.is at h) taken refl refl;
      exprs = place_equal ex (roots_in (under n m cs p o.kids)) (roots_in (more (rose n p o.kids) no_roses)) (append-nil (roots_in (more (rose n p o.kids) no_roses)));
      pruned = ap (λ (s : Columns). covered_with s kids) columns;
    })
  where
    covered_with : Columns → Roses (Unit {0}) Op → Roses (Unit {0}) Op
    covered_with s kids = more (rose tt (op_at ex (SimpleProjection n (typed_names s (x ∷ asked)))) (more (rose tt (op_at ex (Cache i id hits)) kids) no_roses)) no_roses

-- equal closed steps have equal parts
closed_parts : (o u : Option Columns) (p q : IR) → Closed o p ≡ Closed u q → (o ≡ u) × (p ≡ q)
closed_parts o u p q e = (cc, cc)

-- a closed step is that of a closed node
is_closed_step : (b : List IR) (ex : List AExpr) (asked : List Name) (p q : IR) (columns : Option Columns) → Closed columns q ≡ step_of b ex asked p → is_closed (op_at ex p) ≡ true
is_closed_step b ex asked (Cache i id hits) q columns e = refl
is_closed_step b ex asked (Join left right schema left_on right_on options) q columns e = cc
is_closed_step b ex asked (Slice j offset len) q columns e = cc
is_closed_step b ex asked (Filter j predicate) q columns e = cc
is_closed_step b ex asked (Scan sources info hive predicate output kind options) q columns e = cc
is_closed_step b ex asked (DataFrameScan df schema output) q columns e = cc
is_closed_step b ex asked (SimpleProjection j cs) q columns e = cc
is_closed_step b ex asked (Select j es schema options) q columns e = cc
is_closed_step b ex asked (HStack j es schema options) q columns e = cc
is_closed_step b ex asked (Sort j keys part options) q columns e = cc
is_closed_step b ex asked (GroupBy j keys aggs schema ordered options) q columns e = cc
is_closed_step b ex asked (Distinct j options) q columns e = cc
is_closed_step b ex asked (MapFunction j function) q columns e = cc
is_closed_step b ex asked (Sink j payload) q columns e = cc
is_closed_step b ex asked (Union inputs options) q columns e = cc
is_closed_step b ex asked (HConcat inputs schema options) q columns e = cc
is_closed_step b ex asked Invalid q columns e = cc

-- a closed node is pruned by its step
module _ (asked : List Name) (a b : List IR) (ex : List AExpr) (n : Node) (q d : IR) (columns : Option Columns) (taken : b ≡ slice_set a n.0 d) (top : Bool) (z : List IR) (back : z ≡ with_columns_on columns b n q) where
  put_closed : (o : Option Columns) (p : IR) → Closed columns q ≡ Closed o p → z ≡ with_columns_on o b n p
  put_closed o p e =
      let x = closed_parts columns o q p e in
      back ∙ ap (λ (u : Option Columns). with_columns_on u b n q) x.0 ∙ ap (with_columns_on o b n) x.1

  closed_pruned : (p : IR) → slice_get a n.0 ≡ Some p → Closed columns q ≡ step_of b ex asked p → PrunesAt top asked a z ex ex n
  closed_pruned (Cache i id hits) e is = rw (put_closed _ _ is) (cache_covered top asked a b ex n i id hits d e taken)
  closed_pruned (Join left right schema left_on right_on options) e is = cc
  closed_pruned (Slice j offset len) e is = cc
  closed_pruned (Filter j predicate) e is = cc
  closed_pruned (Scan sources info hive predicate output kind options) e is = cc
  closed_pruned (DataFrameScan df schema output) e is = cc
  closed_pruned (SimpleProjection j cs) e is = cc
  closed_pruned (Select j es schema options) e is = cc
  closed_pruned (HStack j es schema options) e is = cc
  closed_pruned (Sort j keys part options) e is = cc
  closed_pruned (GroupBy j keys aggs schema ordered options) e is = cc
  closed_pruned (Distinct j options) e is = cc
  closed_pruned (MapFunction j function) e is = cc
  closed_pruned (Sink j payload) e is = cc
  closed_pruned (Union inputs options) e is = cc
  closed_pruned (HConcat inputs schema options) e is = cc
  closed_pruned Invalid e is = cc

-- and marked: what is below it isn't looked at
module _ (asked : List Name) (a b : List IR) (ex : List AExpr) (n : Node) (p q d : IR) (columns : Option Columns) (e : slice_get a n.0 ≡ Some p) (taken : b ≡ slice_set a n.0 d) (step : Closed columns q ≡ step_of b ex asked p) where
  pub closed_step : (top : Bool) (z : List IR) → z ≡ with_columns_on columns b n q → PrunesAt top asked a z ex ex n
  closed_step top z back = closed_pruned asked a b ex n q d columns taken top z back p e step

  pub closed_mark : (before mid : Bool) → mid ≡ (before || is_count (op_at ex p)) → MarksAt before mid a ex n
  closed_mark before mid is = counts_none a b ex n p d e taken (is_closed_step b ex asked p q columns step) before mid is
