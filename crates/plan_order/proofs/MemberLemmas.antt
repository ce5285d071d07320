-- Nodes of a walk, and those of the plan.
use Rattle.std.proofs.Common.{◌≡◌, ◌∙◌, ◌<◌, ◌||◌, Bool, true, false, List, [], ◌∷◌, ◌++◌, length, Some, refl, sym, ap, ap₂}
use Rattle.std.specs.List.{AllByRecursion, list_any, slice_get}
use Rattle.std.proofs.lemmas.Option.{slice_get_within}
use Rattle.plan_core.specs.declared.arena.Node.{Node}
use Rattle.plan_tree.specs.Rose.{Roses, rose, no_roses, more}
use Rattle.plan_tree.specs.Stands.{Stands, StandsOnce, Trees}
use Rattle.plan_tree.proofs.ReadLemmas.{tree_at-is, trees_at-is}
use Rattle.plan_expr.specs.declared.aexpr.AExpr.{AExpr}
use Rattle.plan_ir.specs.declared.ir.IR.{IR}
use Rattle.plan_ir.specs.declared.ir.IR.TheVariants.{Slice, Filter, Scan, DataFrameScan, SimpleProjection, Select, HStack, Sort, GroupBy, Join, Distinct, MapFunction, Sink, Union, HConcat, Cache, Invalid}
use Rattle.plan_ir.specs.Parts.{inputs_of, plan_shape}
use Rattle.plan_ir.specs.Plans.{Op, bare, op_at, plans_at, plans_of}
use Rattle.plan_ir.specs.Walks.{last_first, nodes_from}
use Rattle.plan_order.specs.Members.{filtered, is_filter_on_cross, filters_cross, first_is_cross_join, is_cross_entry, is_cross_join, has_node}

any-join : {A : Type 0} (test : A → Bool) (xs ys : List A) → list_any test (xs ++ ys) ≡ (list_any test xs || list_any test ys)
any-join test [] ys = refl
any-join test (x ∷ xs) ys = ap (λ (b : Bool). test x || b) (any-join test xs ys) ∙ assoc (test x) (list_any test xs) (list_any test ys)
  where
    assoc : (a b c : Bool) → (a || (b || c)) ≡ ((a || b) || c)
    assoc true b c = refl
    assoc false b c = refl

all-join : {A : Type 0} (P : A → Type 0) (xs ys : List A) → AllByRecursion P xs → AllByRecursion P ys → AllByRecursion P (xs ++ ys)
all-join P [] ys h k = k
all-join P (x ∷ xs) ys h k = (h.0, all-join P xs ys h.1 k)

turn : (a b c : Bool) → (a || (b || c)) ≡ (b || (c || a))
turn true true c = refl
turn true false true = refl
turn true false false = refl
turn false true c = refl
turn false false true = refl
turn false false false = refl

module _ (lp : List IR) (ex : List AExpr) (t : IR → Bool) (test : Op → Roses (Unit {0}) Op → Bool) (same : (p : IR) (kids : Trees IR) → Stands plan_shape lp (inputs_of p) kids → t p ≡ test (op_at ex p) (bare (plans_of ex kids))) where
  any-has_node : (ns : List Node) (f : Trees IR) → Stands plan_shape lp ns f → list_any (λ (q : Node × IR). t q.1) (last_first f) ≡ has_node test (bare (plans_of ex f))
  any-has_node [] no_roses h = refl
  any-has_node [] (more (rose m p kids) rest) h = absurd h
  any-has_node (n ∷ ns) no_roses h = absurd h
  any-has_node (n ∷ ns) (more (rose m p kids) rest) h =
      any-join (λ (q : Node × IR). t q.1) (last_first rest) ((m, p) ∷ last_first kids)
      ∙ turn (list_any (λ (q : Node × IR). t q.1) (last_first rest)) (t p) (list_any (λ (q : Node × IR). t q.1) (last_first kids))
      ∙ ap₂ (λ (a b : Bool). a || b) (same p kids h.3) (ap₂ (λ (a b : Bool). a || b) (any-has_node (inputs_of p) kids h.3) (any-has_node ns rest h.4))

  pub any-members : (n : Node) → ((u : Trees IR) × StandsOnce plan_shape lp (n ∷ []) u) → list_any (λ (q : Node × IR). t q.1) (nodes_from lp n) ≡ has_node test (bare (plans_at lp ex (n ∷ [])))
  any-members n h =
      ap (λ (u : Trees IR). list_any (λ (q : Node × IR). t q.1) (last_first u)) (tree_at-is plan_shape lp n h.0 h.1)
      ∙ any-has_node (n ∷ []) h.0 h.1.stands
      ∙ ap (λ (u : Trees IR). has_node test (bare (plans_of ex u))) (sym (trees_at-is plan_shape lp (n ∷ []) h.0 h.1))

-- the first plan below a filter is its input
crossed : (lp : List IR) (ex : List AExpr) (i : Node) (kids : Trees IR) → Stands plan_shape lp (i ∷ []) kids → is_cross_entry (slice_get lp i.0) ≡ first_is_cross_join (bare (plans_of ex kids))
crossed lp ex i no_roses h = absurd h
crossed lp ex i (more (rose m p kids) rest) h = ap is_cross_entry h.1 ∙ at p
  where
    at : (q : IR) → is_cross_entry (Some q) ≡ is_cross_join (op_at ex q)
    at (Join left right schema left_on right_on options) = refl
    at (Slice j offset len) = refl
    at (Filter j predicate) = refl
    at (Scan sources info hive predicate output kind options) = refl
    at (DataFrameScan df schema output) = refl
    at (SimpleProjection j columns) = refl
    at (Select j es schema options) = refl
    at (HStack j es schema options) = refl
    at (Sort j keys part options) = refl
    at (GroupBy j keys aggs schema ordered options) = refl
    at (Distinct j options) = refl
    at (MapFunction j function) = refl
    at (Sink j payload) = refl
    at (Union inputs options) = refl
    at (HConcat inputs schema options) = refl
    at (Cache j id hits) = refl
    at Invalid = refl

pub filters-same : (lp : List IR) (ex : List AExpr) (p : IR) (kids : Trees IR) → Stands plan_shape lp (inputs_of p) kids → filters_cross lp p ≡ is_filter_on_cross (op_at ex p) (bare (plans_of ex kids))
filters-same lp ex (Filter i predicate) kids h = crossed lp ex i kids h
filters-same lp ex (Join left right schema left_on right_on options) kids h = refl
filters-same lp ex (Slice j offset len) kids h = refl
filters-same lp ex (Scan sources info hive predicate output kind options) kids h = refl
filters-same lp ex (DataFrameScan df schema output) kids h = refl
filters-same lp ex (SimpleProjection j columns) kids h = refl
filters-same lp ex (Select j es schema options) kids h = refl
filters-same lp ex (HStack j es schema options) kids h = refl
filters-same lp ex (Sort j keys part options) kids h = refl
filters-same lp ex (GroupBy j keys aggs schema ordered options) kids h = refl
filters-same lp ex (Distinct j options) kids h = refl
filters-same lp ex (MapFunction j function) kids h = refl
filters-same lp ex (Sink j payload) kids h = refl
filters-same lp ex (Union inputs options) kids h = refl
filters-same lp ex (HConcat inputs schema options) kids h = refl
filters-same lp ex (Cache j id hits) kids h = refl
filters-same lp ex Invalid kids h = refl

-- the input of each filter is in the arena
abbrev pub Within : List IR → Node × IR → Type 0
Within lp q = (i : Node) → filtered q.1 ≡ Some i → i.0 < length lp

within-one : (lp : List IR) (m : Node) (p : IR) (kids : Trees IR) → Stands plan_shape lp (inputs_of p) kids → Within lp (m, p)
within-one lp m (Filter j predicate) no_roses h i e = absurd h
within-one lp m (Filter j predicate) (more (rose k q below) rest) h i e =
    let same : j ≡ i = cc in
    slice_get_within lp i.0 q (ap (λ (x : Node). slice_get lp x.0) (sym same) ∙ h.1)
within-one lp m (Join left right schema left_on right_on options) kids h i e = cc
within-one lp m (Slice j offset len) kids h i e = cc
within-one lp m (Scan sources info hive predicate output kind options) kids h i e = cc
within-one lp m (DataFrameScan df schema output) kids h i e = cc
within-one lp m (SimpleProjection j columns) kids h i e = cc
within-one lp m (Select j es schema options) kids h i e = cc
within-one lp m (HStack j es schema options) kids h i e = cc
within-one lp m (Sort j keys part options) kids h i e = cc
within-one lp m (GroupBy j keys aggs schema ordered options) kids h i e = cc
within-one lp m (Distinct j options) kids h i e = cc
within-one lp m (MapFunction j function) kids h i e = cc
within-one lp m (Sink j payload) kids h i e = cc
within-one lp m (Union inputs options) kids h i e = cc
within-one lp m (HConcat inputs schema options) kids h i e = cc
within-one lp m (Cache j id hits) kids h i e = cc
within-one lp m Invalid kids h i e = cc

within-all : (lp : List IR) (ns : List Node) (f : Trees IR) → Stands plan_shape lp ns f → AllByRecursion (Within lp) (last_first f)
within-all lp [] no_roses h = tt
within-all lp [] (more (rose m p kids) rest) h = absurd h
within-all lp (n ∷ ns) no_roses h = absurd h
within-all lp (n ∷ ns) (more (rose m p kids) rest) h =
    all-join (Within lp) (last_first rest) ((m, p) ∷ last_first kids) (within-all lp ns rest h.4) (within-one lp m p kids h.3, within-all lp (inputs_of p) kids h.3)

pub within-walk : (lp : List IR) (n : Node) → ((u : Trees IR) × StandsOnce plan_shape lp (n ∷ []) u) → AllByRecursion (Within lp) (nodes_from lp n)
within-walk lp n h = rw (tree_at-is plan_shape lp n h.0 h.1) (within-all lp (n ∷ []) h.0 h.1.stands)

-- one node more was noted
pub noted : {A : Type 0} (t : A → Bool) (old new all : Bool) (q : A) (left whole : List A) → whole ≡ q ∷ left → new ≡ (old || t q) → (old || list_any t whole) ≡ all → (new || list_any t left) ≡ all
noted t old new all q left whole is put so_far =
    ap (λ (b : Bool). b || list_any t left) put
    ∙ assoc old (t q) (list_any t left)
    ∙ ap (λ (xs : List _). old || list_any t xs) (sym is)
    ∙ so_far
  where
    assoc : (a b c : Bool) → ((a || b) || c) ≡ (a || (b || c))
    assoc true b c = refl
    assoc false b c = refl

pub noted-all : {A : Type 0} (t : A → Bool) (b all : Bool) (left : List A) → left ≡ [] → (b || list_any t left) ≡ all → b ≡ all
noted-all t b all left is so_far = last b ∙ ap (λ (xs : List _). b || list_any t xs) (sym is) ∙ so_far
  where
    last : (x : Bool) → x ≡ (x || false)
    last true = refl
    last false = refl
