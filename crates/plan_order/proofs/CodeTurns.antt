-- A turn of the pass as its code makes it.
use Rattle.std.proofs.Common.{◌≡◌, ℕ, Bool, true, false, not, ◌||◌, List, [], ◌∷◌, ◌++◌, Option, Some, refl, sym, ap, ◌∙◌, subst}
use Rattle.std.specs.List.{slice_get, slice_set}
use Rattle.plan_core.specs.declared.arena.Node.{Node}
use Rattle.plan_tree.specs.Rose.{rose, no_roses, more}
use Rattle.plan_tree.specs.Stands.{Trees, StandsOnce}
use Rattle.plan_expr.specs.declared.aexpr.AExpr.{AExpr}
use Rattle.plan_ir.specs.declared.ir.IR.{IR}
use Rattle.plan_ir.specs.declared.ir.IR.TheVariants as nodes
use Rattle.plan_ir.specs.Parts.{inputs_of, plan_shape}
use Rattle.plan_ir.specs.Plans.{op_at}
use Rattle.plan_meaning.specs.Checks.{is_empty}
use Rattle.plan_order_laws.specs.Demands.{demands, is_idle}
use Rattle.plan_order.specs.DemandTurns.{idle_input_of, told_node, top_demand}
use Rattle.plan_order.proofs.OrderTrees.{some_trees}
use Rattle.plan_order.proofs.TurnLemmas.{Going, Turn, turn_told, turn_dropped}

-- what a sort is whose order isn't demanded
record Idle (ex : List AExpr) (d : Bool) (p : IR) (i : Node) : Type 0 where
  is : is_idle d (op_at ex p) ≡ true
  one : inputs_of p ≡ i ∷ []
  off : d ≡ false
  same : demands false (op_at ex p) ≡ false

idle_parts : (ex : List AExpr) (d : Bool) (p : IR) (i : Node) → Some i ≡ idle_input_of d p → Idle ex d p i
idle_parts ex true (nodes.Sort input by_column cut sort_options) i h = cc
idle_parts ex false (nodes.Sort input by_column cut sort_options) i h = let q : i ≡ input = cc in record { is = refl; one = ap (λ (k : Node). k ∷ []) (sym q); off = refl; same = refl }
idle_parts ex d (nodes.Slice input offset len) i h = cc
idle_parts ex d (nodes.Filter input predicate) i h = cc
idle_parts ex d (nodes.Scan sources file_info hive_parts predicate output_schema scan_type file_options) i h = cc
idle_parts ex d (nodes.DataFrameScan df schema output_schema) i h = cc
idle_parts ex d (nodes.SimpleProjection input columns) i h = cc
idle_parts ex d (nodes.Select input expr schema options) i h = cc
idle_parts ex d (nodes.HStack input exprs schema options) i h = cc
idle_parts ex d (nodes.GroupBy input keys aggs schema maintain_order options) i h = cc
idle_parts ex d (nodes.Join input_left input_right schema left_on right_on options) i h = cc
idle_parts ex d (nodes.Distinct input options) i h = cc
idle_parts ex d (nodes.MapFunction input function) i h = cc
idle_parts ex d (nodes.Sink input payload) i h = cc
idle_parts ex d (nodes.Union inputs options) i h = cc
idle_parts ex d (nodes.HConcat inputs schema options) i h = cc
idle_parts ex d (nodes.Cache input id cache_hits) i h = cc
idle_parts ex d nodes.Invalid i h = cc

busy_parts : (ex : List AExpr) (d : Bool) (p : IR) → ((i : Node) → idle_input_of d p ≡ Some i → ⊥) → is_idle d (op_at ex p) ≡ false
busy_parts ex true (nodes.Sort input by_column cut sort_options) h = refl
busy_parts ex false (nodes.Sort input by_column cut sort_options) h = absurd (h input refl)
busy_parts ex d (nodes.Slice input offset len) h = refl
busy_parts ex d (nodes.Filter input predicate) h = refl
busy_parts ex d (nodes.Scan sources file_info hive_parts predicate output_schema scan_type file_options) h = refl
busy_parts ex d (nodes.DataFrameScan df schema output_schema) h = refl
busy_parts ex d (nodes.SimpleProjection input columns) h = refl
busy_parts ex d (nodes.Select input expr schema options) h = refl
busy_parts ex d (nodes.HStack input exprs schema options) h = refl
busy_parts ex d (nodes.GroupBy input keys aggs schema maintain_order options) h = refl
busy_parts ex d (nodes.Join input_left input_right schema left_on right_on options) h = refl
busy_parts ex d (nodes.Distinct input options) h = refl
busy_parts ex d (nodes.MapFunction input function) h = refl
busy_parts ex d (nodes.Sink input payload) h = refl
busy_parts ex d (nodes.Union inputs options) h = refl
busy_parts ex d (nodes.HConcat inputs schema options) h = refl
busy_parts ex d (nodes.Cache input id cache_hits) h = refl
busy_parts ex d nodes.Invalid h = refl

-- there are no numbers where no trees stand
nothing_trees : (now : List IR) (ns : List Node) (f : Trees IR) → StandsOnce plan_shape now ns f → is_empty ns ≡ not (some_trees f)
nothing_trees now [] no_roses h = refl
nothing_trees now [] (more (rose m p kids) rest) h = absurd h.stands
nothing_trees now (n ∷ ns) no_roses h = absurd h.stands
nothing_trees now (n ∷ ns) (more (rose m p kids) rest) h = refl

same_entry : (now : List IR) (k : ℕ) (p q : IR) → slice_get now k ≡ Some p → slice_get now k ≡ Some q → p ≡ q
same_entry now k p q a b = cc

-- a node is told of order, and its inputs are stacked
pub told_turn : {old : List IR} {ex : List AExpr} {root : Node} {t : Trees IR} {now : List IR} {d : Bool} {p q r s told : IR} {before after : List Node} {o : Option Node} {e : Bool} (ns : List Node) (n : Node) → before ≡ ns ++ n ∷ [] → Going old ex root t now before d → slice_get now n.0 ≡ Some p → o ≡ idle_input_of d p → ((i : Node) → o ≡ Some i → ⊥) → slice_get now n.0 ≡ Some q → e ≡ top_demand d ex q → slice_get now n.0 ≡ Some r → after ≡ ns ++ inputs_of r → slice_get now n.0 ≡ Some s → told ≡ told_node d s → Turn old ex root t now (slice_set now n.0 told) before after e
told_turn {old} {ex} {root} {t} {now} {d} {p} {q} {r} {s} {told} {before} {after} {o} {e} ns n b g hp o_is none hq e_is hr a hs told_is =
    let busy : is_idle d (op_at ex p) ≡ false = busy_parts ex d p (λ i h. none i (o_is ∙ h)) in
    let e_at : e ≡ top_demand d ex p = e_is ∙ ap (top_demand d ex) (same_entry now n.0 q p hq hp) in
    let a_at : after ≡ ns ++ inputs_of p = a ∙ ap (λ (x : IR). ns ++ inputs_of x) (same_entry now n.0 r p hr hp) in
    let t_at : told ≡ told_node d p = told_is ∙ ap (told_node d) (same_entry now n.0 s p hs hp) in
    let turn = turn_told old ex root t now ns n p d (subst (λ (l : List Node). Going old ex root t now l d) b g) hp busy e (λ kids h. e_at ∙ ap (λ (x : Bool). demands d (op_at ex p) || x) (nothing_trees now (inputs_of p) kids h)) in
    subst (λ (l : List Node). Turn old ex root t now (slice_set now n.0 told) l after e) (sym b)
    (subst (λ (l : List Node). Turn old ex root t now (slice_set now n.0 told) (ns ++ n ∷ []) l e) (sym a_at)
    (subst (λ (x : IR). Turn old ex root t now (slice_set now n.0 x) (ns ++ n ∷ []) (ns ++ inputs_of p) e) (sym t_at) turn))

-- a sort is left out, and what moved up to its number is stacked
pub dropped_turn : {old : List IR} {ex : List AExpr} {root : Node} {t : Trees IR} {now mid next : List IR} {d : Bool} {p q : IR} {before after : List Node} {o : Option Node} (ns : List Node) (n i : Node) (v : IR) → before ≡ ns ++ n ∷ [] → Going old ex root t now before d → slice_get now n.0 ≡ Some p → o ≡ idle_input_of d p → o ≡ Some i → slice_get now i.0 ≡ Some q → mid ≡ slice_set now i.0 v → next ≡ slice_set mid n.0 q → after ≡ ns ++ n ∷ [] → Turn old ex root t now next before after d
dropped_turn {old} {ex} {root} {t} {now} {mid} {next} {d} {p} {q} {before} {after} {o} ns n i v b g hp o_is some hq m_is n_is a =
    let idle = idle_parts ex d p i (sym some ∙ o_is) in
    let turn = turn_dropped old ex root t now ns n i p q v d (subst (λ (l : List Node). Going old ex root t now l d) b g) hp idle.one hq idle.is idle.off idle.same in
    let at : next ≡ slice_set (slice_set now i.0 v) n.0 q = n_is ∙ ap (λ (l : List IR). slice_set l n.0 q) m_is in
    subst (λ (l : List Node). Turn old ex root t now next l after d) (sym b)
    (subst (λ (l : List Node). Turn old ex root t now next (ns ++ n ∷ []) l d) (sym a)
    (subst (λ (x : Bool). Turn old ex root t now next (ns ++ n ∷ []) (ns ++ n ∷ []) x) (sym idle.off)
    (subst (λ (l : List IR). Turn old ex root t now l (ns ++ n ∷ []) (ns ++ n ∷ []) false) (sym at) turn)))

-- the input of a sort that is left out is in the arena
pub input_of : (ex : List AExpr) (d : Bool) (p : IR) (i : Node) {o : Option Node} → o ≡ idle_input_of d p → o ≡ Some i → inputs_of p ≡ i ∷ []
input_of ex d p i {o} o_is some = let idle = idle_parts ex d p i (sym some ∙ o_is) in idle.one
