-- What the pass makes is the plan without the sorts that nothing observes.
use Rattle.std.proofs.Common.{◌≡◌, ℕ, Bool, true, false, ◌||◌, List, [], ◌∷◌, ◌++◌, if◌then◌else◌, refl, sym, ap, ap₂, ◌∙◌, inl, inr, subst, append_assoc}
use Rattle.plan_core.specs.declared.arena.Node.{Node}
use Rattle.plan_tree.specs.Rose.{Rose, Roses, rose, no_roses, more, join}
use Rattle.plan_tree.specs.Stands.{Trees, Reaches, Apart, StandsOnce}
use Rattle.plan_tree.specs.Read.{trees_at}
use Rattle.plan_tree.proofs.ReadLemmas.{trees_at-is}
use Rattle.plan_tree.proofs.Frames.{Reaches-join, Rewrites-refl, join-left, join-right}
use Rattle.plan_tree.proofs.SplitLemmas.{StandsOnce-split, StandsOnce-join}
use Rattle.plan_expr.specs.declared.aexpr.AExpr.{AExpr}
use Rattle.plan_expr.specs.Operands.{expr_shape}
use Rattle.plan_ir.specs.declared.ir.IR.{IR}
use Rattle.plan_ir.specs.declared.ir.IR.TheVariants as nodes
use Rattle.plan_ir.specs.Parts.{inputs_of, plan_shape, roots_of, roots_in, IsPlan, StandsPlan}
use Rattle.plan_ir.specs.Plans.{Op, Plan, bare, op_at, plans_of}
use Rattle.plan_meaning.specs.PlanAt.{one_plan, plan_at}
use Rattle.plan_pass_laws.specs.Becoming.{Becomes}
use Rattle.plan_order_laws.specs.Demands.{demands, is_idle, told_order, ordered, ordered_in}
use Rattle.plan_order.specs.DemandTurns.{told_node}
use Rattle.plan_order.proofs.OrderTrees.{some_trees, moved_up, orders, orders_in, orders-part, told-op, told-roots}
use Rattle.plan_order.proofs.TurnLemmas.{Known, Ordered}

-- a tree as a plan
abbrev pub plan_of : List AExpr → Rose Node IR → Plan
plan_of ex (rose n p kids) = rose tt (op_at ex p) (bare (plans_of ex kids))

-- each idle node has an input
abbrev pub Fed : List AExpr → Trees IR → Type 0
Fed ex no_roses = Unit {0}
Fed ex (more (rose n p kids) rest) = ((b : Bool) → is_idle b (op_at ex p) ≡ true → some_trees kids ≡ true) × Fed ex kids × Fed ex rest

plain : (ex : List AExpr) (r : Rose Node IR) (rest : Trees IR) → bare (plans_of ex (more r rest)) ≡ more (plan_of ex r) (bare (plans_of ex rest))
plain ex (rose n p kids) rest = refl

-- the last of some trees, and one before others
ordered_more : (ex : List AExpr) (d : Bool) (p : Plan) (rest : Trees IR) → ordered_in d (more p (bare (plans_of ex rest))) ≡ more (ordered (d || some_trees rest) p) (ordered_in d (bare (plans_of ex rest)))
ordered_more ex d p no_roses = ap (λ (b : Bool). more (ordered b p) no_roses) (or_false d)
  where
    or_false : (b : Bool) → b ≡ (b || false)
    or_false true = refl
    or_false false = refl
ordered_more ex d p (more (rose n q kids) rest) = ap (λ (b : Bool). more (ordered b p) (ordered_in d (bare (plans_of ex (more (rose n q kids) rest))))) (or_true d)
  where
    or_true : (b : Bool) → true ≡ (b || true)
    or_true true = refl
    or_true false = refl

made-plan : (ex : List AExpr) (d : Bool) (n : Node) (p : IR) (g : Trees IR) (ts : Roses (Unit {0}) Op) → bare (plans_of ex g) ≡ ts → (idle : Bool) → (idle ≡ true → some_trees g ≡ true) → plan_of ex (if idle then moved_up n p g else rose n (told_node d p) g) ≡ (if idle then one_plan ts else rose tt (told_order d (op_at ex p)) ts)
made-plan ex d n p g ts e false h = ap₂ (λ (o : Op) (x : Roses (Unit {0}) Op). let r : Plan = rose tt o x in r) (told-op ex d p) e
made-plan ex d n p no_roses ts e true h = let u = h refl in cc
made-plan ex d n p (more (rose m q kids) rest) ts e true h = ap one_plan e

some-orders : (ex : List AExpr) (d : Bool) (f : Trees IR) → some_trees (orders_in ex d f) ≡ some_trees f
some-orders ex d no_roses = refl
some-orders ex d (more r rest) = refl

-- as plans, what is made is the definition
pub orders-plans : (ex : List AExpr) (d : Bool) (f : Trees IR) → Fed ex f → bare (plans_of ex (orders_in ex d f)) ≡ ordered_in d (bare (plans_of ex f))
orders-plans ex d no_roses fed = refl
orders-plans ex d (more (rose n p kids) rest) fed =
    let b = d || some_trees rest in
    let below = orders-plans ex (demands b (op_at ex p)) kids fed.1 in
    plain ex (orders ex b (rose n p kids)) (orders_in ex d rest)
    ∙ ap₂ (λ (x : Plan) (xs : Roses (Unit {0}) Op). more x xs)
    (made-plan ex b n p (orders_in ex (demands b (op_at ex p)) kids) (ordered_in (demands b (op_at ex p)) (bare (plans_of ex kids))) below (is_idle b (op_at ex p)) (λ e. some-orders ex (demands b (op_at ex p)) kids ∙ fed.0 b e))
    (orders-plans ex d rest fed.2)
    ∙ sym (ordered_more ex d (rose tt (op_at ex p) (bare (plans_of ex kids))) rest)

-- a node without effect has an input, since it is a sort
fed_node : (ex : List AExpr) (lp : List IR) (p : IR) (kids : Trees IR) → StandsOnce plan_shape lp (inputs_of p) kids → (b : Bool) → is_idle b (op_at ex p) ≡ true → some_trees kids ≡ true
fed_node ex lp (nodes.Sort input by_column cut sort_options) no_roses h b e = absurd h.stands
fed_node ex lp (nodes.Sort input by_column cut sort_options) (more r rest) h b e = refl
fed_node ex lp (nodes.Slice input offset len) kids h b e = cc
fed_node ex lp (nodes.Filter input predicate) kids h b e = cc
fed_node ex lp (nodes.Scan sources file_info hive_parts predicate output_schema scan_type file_options) kids h b e = cc
fed_node ex lp (nodes.DataFrameScan df schema output_schema) kids h b e = cc
fed_node ex lp (nodes.SimpleProjection input columns) kids h b e = cc
fed_node ex lp (nodes.Select input expr schema options) kids h b e = cc
fed_node ex lp (nodes.HStack input exprs schema options) kids h b e = cc
fed_node ex lp (nodes.GroupBy input keys aggs schema maintain_order options) kids h b e = cc
fed_node ex lp (nodes.Join input_left input_right schema left_on right_on options) kids h b e = cc
fed_node ex lp (nodes.Distinct input options) kids h b e = cc
fed_node ex lp (nodes.MapFunction input function) kids h b e = cc
fed_node ex lp (nodes.Sink input payload) kids h b e = cc
fed_node ex lp (nodes.Union inputs options) kids h b e = cc
fed_node ex lp (nodes.HConcat inputs schema options) kids h b e = cc
fed_node ex lp (nodes.Cache input id cache_hits) kids h b e = cc
fed_node ex lp nodes.Invalid kids h b e = cc

pub fed_trees : (ex : List AExpr) (lp : List IR) (ns : List Node) (f : Trees IR) → StandsOnce plan_shape lp ns f → Fed ex f
fed_trees ex lp ns no_roses h = tt
fed_trees ex lp [] (more (rose n p kids) rest) h = absurd h.stands
fed_trees ex lp (m ∷ ns) (more (rose n p kids) rest) h =
    let below : StandsOnce plan_shape lp (inputs_of p) kids = record { stands = h.stands.3; once = h.once.3 } in
    (fed_node ex lp p kids below, fed_trees ex lp (inputs_of p) kids below, fed_trees ex lp ns rest (record { stands = h.stands.4; once = h.once.4 }))

-- expressions that stand, and reach no more than others do
pub record Fewer (ex : List AExpr) (ns : List Node) (e : Trees AExpr) : Type 0 where
  pub trees : Trees AExpr
  pub stands : StandsOnce expr_shape ex ns trees
  pub part : (k : ℕ) → Reaches trees k → Reaches e k

fewer_join : (ex : List AExpr) (ns ms : List Node) (e f : Trees AExpr) → Fewer ex ns e → Fewer ex ms f → Apart e f → Fewer ex (ns ++ ms) (join e f)
fewer_join ex ns ms e f a b apart = record {
  trees = join a.trees b.trees;
  stands = StandsOnce-join expr_shape ex ns ms a.trees b.trees a.stands b.stands (λ k r s. apart k (a.part k r) (b.part k s));
  part = λ k r. elim (Reaches-join expr_shape a.trees b.trees k r) as (λ _. Reaches (join e f) k) [ inl u ↦ join-left expr_shape e f k (a.part k u) | inr v ↦ join-right expr_shape e f k (b.part k v) ];
}

fewer_front : (ex : List AExpr) (ns ms : List Node) (e : Trees AExpr) → Fewer ex (ns ++ ms) e → Fewer ex ns e
fewer_front ex ns ms e a =
    let s = StandsOnce-split expr_shape ex ns ms a.trees a.stands in
    record {
      trees = s.left;
      stands = s.first;
      part = λ k r. a.part k (subst (λ (x : Trees AExpr). Reaches x k) (sym s.is) (join-left expr_shape s.left s.right k r));
    }

-- the expressions of a node that stays, or of the one that moved up to its number
fewer_node : (ex : List AExpr) (idle : Bool) (d : Bool) (n : Node) (p : IR) (g rest : Trees IR) (own below others : Trees AExpr) → (idle ≡ true → some_trees g ≡ true) → StandsOnce expr_shape ex (roots_of p) own → Fewer ex (roots_in g) below → Fewer ex (roots_in rest) others → Apart own (join below others) → Apart below others → Fewer ex (roots_in (more (if idle then moved_up n p g else rose n (told_node d p) g) rest)) (join own (join below others))
fewer_node ex false d n p g rest own below others fed h b o far near =
    rw (told-roots d p) (fewer_join ex (roots_of p) (roots_in g ++ roots_in rest) own (join below others) (record { trees = own; stands = h; part = λ k r. r }) (fewer_join ex (roots_in g) (roots_in rest) below others b o near) far)
fewer_node ex true d n p no_roses rest own below others fed h b o far near = let u = fed refl in cc
fewer_node ex true d n p (more (rose m q kids) more_of) rest own below others fed h b o far near =
    let first = fewer_front ex (roots_of q ++ roots_in kids) (roots_in more_of) below (subst (λ (l : List Node). Fewer ex l below) (sym (append_assoc (roots_of q) (roots_in kids) (roots_in more_of))) b) in
    let both = fewer_join ex (roots_of q ++ roots_in kids) (roots_in rest) below others first o near in
    subst (λ (l : List Node). Fewer ex l (join own (join below others))) (append_assoc (roots_of q) (roots_in kids) (roots_in rest)) (record { trees = both.trees; stands = both.stands; part = λ k r. join-right expr_shape own (join below others) k (both.part k r) })

pub fewer_exprs : (ex : List AExpr) (d : Bool) (f : Trees IR) (e : Trees AExpr) → Fed ex f → StandsOnce expr_shape ex (roots_in f) e → Fewer ex (roots_in (orders_in ex d f)) e
fewer_exprs ex d no_roses e fed h = record { trees = e; stands = h; part = λ k r. r }
fewer_exprs ex d (more (rose n p kids) rest) e fed h =
    let b = d || some_trees rest in
    let s = StandsOnce-split expr_shape ex (roots_of p) (roots_in kids ++ roots_in rest) e h in
    let u = StandsOnce-split expr_shape ex (roots_in kids) (roots_in rest) s.right s.second in
    let below = fewer_exprs ex (demands b (op_at ex p)) kids u.left fed.1 u.first in
    let others = fewer_exprs ex d rest u.right fed.2 u.second in
    let far : Apart s.left (join u.left u.right) = subst (λ (x : Trees AExpr). Apart s.left x) u.is s.apart in
    let all = fewer_node ex (is_idle b (op_at ex p)) b n p (orders_in ex (demands b (op_at ex p)) kids) (orders_in ex d rest) s.left u.left u.right (λ i. some-orders ex (demands b (op_at ex p)) kids ∙ fed.0 b i) s.first below others far u.apart in
    subst (λ (x : Trees AExpr). Fewer ex (roots_in (orders_in ex d (more (rose n p kids) rest))) x) (sym (s.is ∙ ap (join s.left) u.is)) all

-- expressions stand over those of each node
pub known_all : (ex : List AExpr) (f : Trees IR) (e : Trees AExpr) → StandsOnce expr_shape ex (roots_in f) e → Known ex f
known_all ex no_roses e h = tt
known_all ex (more (rose n p kids) rest) e h =
    let s = StandsOnce-split expr_shape ex (roots_of p) (roots_in kids ++ roots_in rest) e h in
    let u = StandsOnce-split expr_shape ex (roots_in kids) (roots_in rest) s.right s.second in
    ((s.left, s.first), known_all ex kids u.left u.first, known_all ex rest u.right u.second)

-- what the pass makes of a plan
module _ (old new : List IR) (ex : List AExpr) (root : Node) where
  pub in_place : (t : Trees IR) (e : Trees AExpr) → StandsPlan old ex root t e → Ordered old new ex root t → Becomes old new ex ex root t e
  in_place t e h o =
      let fewer = fewer_exprs ex true t e (fed_trees ex old (root ∷ []) t h.nodes) h.exprs in
      record {
        nodes = orders_in ex true t;
        exprs = fewer.trees;
        places = record { stands = o.stands; keeps = o.keeps; within = λ k r. inl (orders-part ex true t k r) };
        under = record { stands = fewer.stands; keeps = (Rewrites-refl expr_shape ex (roots_in t) e h.exprs).keeps; within = λ k r. inl (fewer.part k r) };
      }

  one_ordered : (t : Trees IR) → StandsOnce plan_shape old (root ∷ []) t → one_plan (ordered_in true (bare (plans_of ex t))) ≡ ordered true (one_plan (bare (plans_of ex t)))
  one_ordered no_roses h = absurd h.stands
  one_ordered (more (rose m p kids) no_roses) h = refl
  one_ordered (more (rose m p kids) (more (rose k q below) rest)) h = absurd h.stands.4

  pub plan_ordered : (t : Trees IR) → StandsOnce plan_shape old (root ∷ []) t → Ordered old new ex root t → plan_at new ex root ≡ ordered true (plan_at old ex root)
  plan_ordered t h o =
      ap (λ (x : Trees IR). one_plan (bare (plans_of ex x))) (trees_at-is plan_shape new (root ∷ []) (orders_in ex true t) o.stands)
      ∙ ap one_plan (orders-plans ex true t (fed_trees ex old (root ∷ []) t h))
      ∙ one_ordered t h
      ∙ ap (λ (x : Trees IR). ordered true (one_plan (bare (plans_of ex x)))) (sym (trees_at-is plan_shape old (root ∷ []) t h))

  pub still_plan : (p : IsPlan old ex root) → Ordered old new ex root p.nodes → IsPlan new ex root
  still_plan p o =
      let made = in_place p.nodes p.exprs p.stands o in
      record { nodes = made.nodes; exprs = made.exprs; stands = record { nodes = made.places.stands; exprs = made.under.stands } }

  -- whatever trees stand at the root are those that the loop knows
  pub any_trees : (t : Trees IR) → StandsOnce plan_shape old (root ∷ []) t → Ordered old new ex root (trees_at plan_shape old (root ∷ [])) → Ordered old new ex root t
  any_trees t h o = subst (λ (x : Trees IR). Ordered old new ex root x) (trees_at-is plan_shape old (root ∷ []) t h) o
