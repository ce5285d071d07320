-- The plan of a listing is read again of what is written for it.
use Rattle.std.proofs.Common.{◌≡◌, ℕ, true, List, [], ◌∷◌, ◌++◌, sym, ap, ◌∙◌, subst}
use Rattle.plan_core.specs.declared.arena.Node.{Node}
use Rattle.plan_core.specs.declared.flags.OptFlags.{OptFlags}
use Rattle.plan_tree.specs.Rose.{Roses, rose, no_roses, more, items}
use Rattle.plan_expr.specs.declared.aexpr.AExpr.{AExpr}
use Rattle.plan_ir.specs.Copies.{IsRenumbered}
use Rattle.plan_ir.specs.Plans.{Op, Plan, bare, plans_at}
use Rattle.plan_ir.specs.declared.copy.PlanCopy.{PlanCopy}
use Rattle.plan_ir.specs.declared.ir.IR.{IR}
use Rattle.plan_meaning.specs.PlanAt.{one_plan, plan_at}
use Rattle.plan_meaning.specs.Steps.{IsValid}
use Rattle.plan_meaning.specs.Typing.{AllValid}
use Rattle.plan_meaning.proofs.Validity.{one_stands}
use Rattle.plan_top.specs.declared.trail.Pass.{Pass}
use Rattle.plan_top.specs.declared.trail.Pass.TheVariants as passes_of
use Rattle.plan_top.specs.Chains.{Boxes, Chain, Follows, Left, kinds_for, passes}
use Rattle.plan_round_trip.proofs.Renumbered.{NodeOpTold, PlanTold}
use Rattle.plan_round_trip.proofs.Trees.{all_from, all_from_both}
use Rattle.plan_round_trip.proofs.ListedClusters.{clustered_told}
use Rattle.plan_round_trip.proofs.ListedColumns.{valid_columns}
use Rattle.plan_round_trip.proofs.ListedParts.{ColumnsTold, RestTold, rest_of, whole_of}
use Rattle.plan_round_trip.proofs.ListedOrders.{counted_told, ordered_told}
use Rattle.plan_round_trip.proofs.ListedRules.{rounds_told}
use Rattle.plan_round_trip.proofs.Pruned.{pruned_told}
use Rattle.plan_round_trip.proofs.ListedTrees.{AreTold, IsTold, one_more, one_told}

-- what passes make of a plan that is read again is read again, but for its columns, where each box holds a rule that is its kind's own
follows_told : (flags : OptFlags) (boxes : Boxes) (k : Pass) (p q : Plan) (n : ℕ) → boxes.own ≡ true → Follows flags boxes k p q n → IsTold p → IsTold q
follows_told flags boxes passes_of.Given p q n own h t = subst IsTold (sym h.0) t
follows_told flags boxes passes_of.Order p q n own h t = subst IsTold (sym h.0) (ordered_told true p t)
follows_told flags boxes passes_of.Prune p q n own h t = subst IsTold (sym h.0.exact) (pruned_told true [] p t)
follows_told flags boxes passes_of.Count p q n own h t = subst IsTold (sym h.0) (counted_told p t)
follows_told flags boxes passes_of.Cluster p q n own h t = subst IsTold (sym h.0.exact) (clustered_told p t)
follows_told flags boxes passes_of.Rules p q n own h t = rounds_told (kinds_for flags ++ boxes.kinds) p q (h.rounds own) t

chain_told : (flags : OptFlags) (boxes : Boxes) (p : Plan) (ks : List Pass) (steps : List Left) (q : Plan) → boxes.own ≡ true → Chain flags boxes p ks steps q → IsTold p → IsTold q
chain_told flags boxes p [] [] q own h t = subst IsTold h t
chain_told flags boxes p [] (l ∷ steps) q own h t = absurd h
chain_told flags boxes p (k ∷ ks) [] q own h t = absurd h
chain_told flags boxes p (k ∷ ks) (l ∷ steps) q own h t = chain_told flags boxes l.plan ks steps q own h.2 (follows_told flags boxes k p l.plan l.replaced own h.1 t)

-- a plan that was renumbered is one
one_left : (lp : List IR) (ex : List AExpr) (root : Node) (copy : PlanCopy) → IsRenumbered lp ex root copy → (op : Op) × (ts : Roses (Unit {0}) Op) × (more (rose tt op ts) no_roses ≡ bare (plans_at lp ex (root ∷ [])))
one_left lp ex root copy h =
    let s = one_stands copy.lp copy.ex copy.root (record { nodes = h.nodes; exprs = h.exprs; stands = h.stands }) in
    (s.1, bare s.2, sym (ap bare s.3) ∙ h.same)

-- what is told of such a plan is told of all that stands at its number
all_told : (ts : Roses (Unit {0}) Op) (op : Op) (us : Roses (Unit {0}) Op) → more (rose tt op us) no_roses ≡ ts → IsTold (one_plan ts) → AreTold ts
all_told ts op us is t = subst AreTold is (one_more (rose tt op us) no_roses (subst (λ (x : Roses (Unit {0}) Op). IsTold (one_plan x)) (sym is) t) tt)

all_valid : (ts : Roses (Unit {0}) Op) (op : Op) (us : Roses (Unit {0}) Op) → more (rose tt op us) no_roses ≡ ts → IsValid (one_plan ts) → AllValid ts
all_valid ts op us is v = subst AllValid is (one_valid op us (subst (λ (x : Roses (Unit {0}) Op). IsValid (one_plan x)) (sym is) v))
  where
    one_valid : (o : Op) (vs : Roses (Unit {0}) Op) → IsValid (rose tt o vs) → AllValid (more (rose tt o vs) no_roses)
    one_valid o vs w = (w.0, w.1, tt)

-- a plan that passes left of one that is read again is read again, where it is valid
pub told_answer : (flags : OptFlags) (boxes : Boxes) (lp nodes : List IR) (ex exprs : List AExpr) (root : Node) (copy : PlanCopy) (steps : List Left) → boxes.own ≡ true → PlanTold lp ex root → Chain flags boxes (plan_at lp ex root) (passes flags (plan_at lp ex root)) steps (plan_at nodes exprs root) → IsRenumbered nodes exprs root copy → IsValid (plan_at nodes exprs root) → PlanTold nodes exprs root
told_answer flags boxes lp nodes ex exprs root copy steps own told chain h v =
    let given = bare (plans_at lp ex (root ∷ [])) in
    let left = bare (plans_at nodes exprs (root ∷ [])) in
    let one = one_left nodes exprs root copy h in
    let first : IsTold (plan_at lp ex root) = one_told given (all_from NodeOpTold RestTold rest_of (items given) told) in
    let last : IsTold (plan_at nodes exprs root) = chain_told flags boxes (plan_at lp ex root) (passes flags (plan_at lp ex root)) steps (plan_at nodes exprs root) own chain first in
    let rest : AreTold left = all_told left one.0 one.1 one.2 last in
    all_from_both RestTold ColumnsTold NodeOpTold whole_of (items left) rest (valid_columns left (all_valid left one.0 one.1 one.2 v))
