-- Filters by the literal true, as a node tells them.
use Rattle.std.proofs.Common.{◌≡◌, Bool, true, false, cond, List, [], ◌∷◌, Some, None, refl, ap, ◌∙◌}
use Rattle.std.specs.List.{slice_get, slice_set}
use Rattle.plan_core.specs.declared.arena.Node.{Node}
use Rattle.plan_tree.specs.Rose.{Roses, rose}
use Rattle.plan_tree.specs.Stands.{Trees}
use Rattle.plan_expr.specs.declared.aexpr.AExpr.{AExpr}
use Rattle.plan_ir.specs.declared.ir.IR.{IR}
use Rattle.plan_ir.specs.declared.ir.IR.TheVariants.{Filter}
use Rattle.plan_ir.specs.Parts.{StandsPlan, first_input, inputs_of, plan_shape}
use Rattle.plan_ir.specs.Plans.{Op, op_at, plans_of, bare}
use Rattle.plan_tree.proofs.TreeLemmas.{opened}
use Rattle.plan_meaning.specs.PlanAt.{plan_at}
use Rattle.plan_meaning.specs.Steps.{IsValid}
use Rattle.plan_pass_laws.specs.declared.kind.RuleKind.TheVariants as kinds
use Rattle.plan_pass_laws.specs.Answers.{answer_of, keeps_all, only_input, true_filter_answer}
use Rattle.plan_pass_laws.specs.Patterns.{shows}
use Rattle.plan_rule.specs.Calls.{Leaves, Replaces, plan_of}
use Rattle.plan_rule.proofs.InputUp.{input_up}
use Rattle.plan_rule.proofs.Placed.{over_one, stays}

-- no input is told: the filter is no such
untold : (ex : List AExpr) (p : IR) → None ≡ cond (keeps_all (op_at ex p)) (first_input p) None → keeps_all (op_at ex p) ≡ false
untold ex (Filter input predicate) e = at (keeps_all (op_at ex (Filter input predicate))) e
  where
    at : (b : Bool) → None ≡ cond b (Some input) None → b ≡ false
    at true e = cc
    at false e = refl
untold ex p e = refl

-- an input is told: it is the only one of such a filter
told_input : (ex : List AExpr) (p : IR) (i : Node) → Some i ≡ cond (keeps_all (op_at ex p)) (first_input p) None → (keeps_all (op_at ex p) ≡ true) × (inputs_of p ≡ i ∷ [])
told_input ex (Filter input predicate) i e = at (keeps_all (op_at ex (Filter input predicate))) e
  where
    at : (b : Bool) → Some i ≡ cond b (Some input) None → (b ≡ true) × (input ∷ [] ≡ i ∷ [])
    at true e = (refl, cc)
    at false e = cc
told_input ex p i e = cc

answer_none : (op : Op) (ts : Roses (Unit {0}) Op) → keeps_all op ≡ false → true_filter_answer (rose tt op ts) ≡ None
answer_none op ts e = ap (λ (b : Bool). cond b (only_input ts) None) e

pub filter_stays : (lp : List IR) (ex : List AExpr) (n : Node) (p : IR) (t : Trees IR) (e : Trees AExpr) → StandsPlan lp ex n t e → slice_get lp n.0 ≡ Some p → None ≡ cond (keeps_all (op_at ex p)) (first_input p) None → Leaves kinds.TrueFilter true lp lp ex ex n t e
filter_stays lp ex n p t e h entry none =
    let o = opened plan_shape lp n p t h.nodes entry in
    let none_here = untold ex p none in
    let is : plan_of ex t ≡ rose tt (op_at ex p) (bare (plans_of ex o.kids)) = ap (λ (f : Trees IR). plan_of ex f) o.is in
    stays kinds.TrueFilter true lp ex n t e h
    (ap (shows kinds.TrueFilter) is ∙ none_here)
    (ap true_filter_answer is ∙ answer_none (op_at ex p) (bare (plans_of ex o.kids)) none_here)
    refl

pub filter_goes : (lp : List IR) (ex : List AExpr) (n i : Node) (p q d : IR) (t : Trees IR) (e : Trees AExpr) → StandsPlan lp ex n t e → IsValid (plan_at lp ex n) → slice_get lp n.0 ≡ Some p → Some i ≡ cond (keeps_all (op_at ex p)) (first_input p) None → slice_get lp i.0 ≡ Some q → Replaces kinds.TrueFilter true lp (slice_set (slice_set lp i.0 d) n.0 q) ex ex n t e
filter_goes lp ex n i p q d t e h v entry some below =
    let s = told_input ex p i some in
    let answer : answer_of kinds.TrueFilter (plan_at lp ex n) ≡ Some (plan_at lp ex i) =
    ap true_filter_answer (over_one lp ex n i p t h.nodes entry s.1) ∙ ap (λ (b : Bool). cond b (Some (plan_at lp ex i)) None) s.0 in
    input_up kinds.TrueFilter true lp ex n i p q d e t h v entry s.1 below answer
