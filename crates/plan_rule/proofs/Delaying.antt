-- The rule that delays, over what stands at its number.
use Rattle.std.proofs.Common.{◌≡◌, ◌&&◌, Bool, true, false, cond, List, [], ◌∷◌, ◌++◌, Some, None, refl, sym, ap, ◌∙◌, subst}
use Rattle.std.specs.List.{slice_get}
use Rattle.plan_core.specs.declared.arena.Node.{Node}
use Rattle.plan_tree.specs.Rose.{Roses, rose, no_roses, more}
use Rattle.plan_tree.specs.Stands.{Rewrites, StandsOnce, Trees}
use Rattle.plan_tree.proofs.Frames.{Rewrites-refl}
use Rattle.plan_tree.proofs.Replaced.{below}
use Rattle.plan_tree.proofs.TreeLemmas.{opened}
use Rattle.plan_expr.specs.declared.aexpr.AExpr.{AExpr}
use Rattle.plan_expr.specs.Operands.{expr_shape}
use Rattle.plan_ir.specs.declared.ir.IR.{IR}
use Rattle.plan_ir.specs.declared.ir.IR.TheVariants.{GroupBy}
use Rattle.plan_ir.specs.Parts.{IsPlan, StandsPlan, first_input, inputs_of, plan_shape, roots_in, roots_of}
use Rattle.plan_ir.specs.Plans.{Op, Plan, bare, op_at, plans_of}
use Rattle.plan_pass_laws.specs.declared.kind.RuleKind.TheVariants as kinds
use Rattle.plan_pass_laws.specs.Answers.{delayed, delayed_in, first_met, groups_by_one}
use Rattle.plan_pass_laws.specs.Clearing.{Cleared}
use Rattle.plan_pass_laws.specs.Patterns.{any_marked, shows}
use Rattle.plan_pass_laws.proofs.ClearedPatterns.{delayed_cleared, delayed_quiet}
use Rattle.plan_rule.specs.Calls.{Leaves, plan_of}
use Rattle.plan_rule.specs.Sought.{Delays}
use Rattle.plan_rule.proofs.Placed.{stays}

-- no input is told: the node is no grouping by one key
ungrouped : (ex : List AExpr) (p : IR) → None ≡ cond (groups_by_one (op_at ex p)) (first_input p) None → groups_by_one (op_at ex p) ≡ false
ungrouped ex (GroupBy input keys aggs schema maintain_order options) e = at (groups_by_one (op_at ex (GroupBy input keys aggs schema maintain_order options))) e
  where
    at : (b : Bool) → None ≡ cond b (Some input) None → b ≡ false
    at true e = cc
    at false e = refl
ungrouped ex p e = refl

-- an input is told: it is the only one of such a grouping
grouped : (ex : List AExpr) (p : IR) (i : Node) → Some i ≡ cond (groups_by_one (op_at ex p)) (first_input p) None → (groups_by_one (op_at ex p) ≡ true) × (inputs_of p ≡ i ∷ [])
grouped ex (GroupBy input keys aggs schema maintain_order options) i e = at (groups_by_one (op_at ex (GroupBy input keys aggs schema maintain_order options))) e
  where
    at : (b : Bool) → Some i ≡ cond b (Some input) None → (b ≡ true) × (input ∷ [] ≡ i ∷ [])
    at true e = (refl, cc)
    at false e = cc
grouped ex p i e = cc

pub ungrouped_stays : (lp : List IR) (ex : List AExpr) (n : Node) (p : IR) (t : Trees IR) (e : Trees AExpr) → StandsPlan lp ex n t e → slice_get lp n.0 ≡ Some p → None ≡ cond (groups_by_one (op_at ex p)) (first_input p) None → Leaves kinds.Rechunk true lp lp ex ex n t e
ungrouped_stays lp ex n p t e h entry none =
    let o = opened plan_shape lp n p t h.nodes entry in
    let none_here = ungrouped ex p none in
    let is : plan_of ex t ≡ rose tt (op_at ex p) (bare (plans_of ex o.kids)) = ap (λ (f : Trees IR). plan_of ex f) o.is in
    stays kinds.Rechunk true lp ex n t e h
    (ap (shows kinds.Rechunk) is ∙ ap (λ (b : Bool). b && any_marked (first_met (bare (plans_of ex o.kids)))) none_here)
    refl
    (ap delayed is ∙ ap (λ (b : Bool). cond b (rose tt (op_at ex p) (delayed_in (bare (plans_of ex o.kids)))) (rose tt (op_at ex p) (bare (plans_of ex o.kids)))) none_here ∙ sym is)

pub delays_below : (lp new : List IR) (ex : List AExpr) (n i : Node) (p : IR) (t : Trees IR) (e : Trees AExpr) → StandsPlan lp ex n t e → slice_get lp n.0 ≡ Some p → Some i ≡ cond (groups_by_one (op_at ex p)) (first_input p) None → ((u : Trees IR) → StandsOnce plan_shape lp (i ∷ []) u → Delays lp new (i ∷ []) u) → Leaves kinds.Rechunk true lp new ex ex n t e
delays_below lp new ex n i p t e h entry some by =
    let o = opened plan_shape lp n p t h.nodes entry in
    let s = grouped ex p i some in
    let lower : StandsOnce plan_shape lp (i ∷ []) o.kids = subst (λ (ns : List Node). StandsOnce plan_shape lp ns o.kids) s.1 o.inputs in
    let x = by o.kids lower in
    let h1 : StandsPlan lp ex n (more (rose n p o.kids) no_roses) e = subst (λ (f : Trees IR). StandsPlan lp ex n f e) o.is h in
    subst (λ (f : Trees IR). Leaves kinds.Rechunk true lp new ex ex n f e) (sym o.is) (at o.kids s.0 h1 x.trees (subst (λ (ns : List Node). Rewrites plan_shape lp new ns o.kids x.trees) (sym s.1) x.places) x.roots (x.plans ex))
  where
    at : (kids : Trees IR) → groups_by_one (op_at ex p) ≡ true → StandsPlan lp ex n (more (rose n p kids) no_roses) e → (us : Trees IR) → Rewrites plan_shape lp new (inputs_of p) kids us → roots_in us ≡ roots_in kids → bare (plans_of ex us) ≡ delayed_in (bare (plans_of ex kids)) → Leaves kinds.Rechunk true lp new ex ex n (more (rose n p kids) no_roses) e
    at kids one h us x roots plans =
        let before = plan_of ex (more (rose n p kids) no_roses) in
        let after : rose tt (op_at ex p) (bare (plans_of ex us)) ≡ delayed before =
        ap (λ (ts : Roses (Unit {0}) Op). rose tt (op_at ex p) ts) plans
        ∙ sym (ap (λ (b : Bool). cond b (rose tt (op_at ex p) (delayed_in (bare (plans_of ex kids)))) (rose tt (op_at ex p) (bare (plans_of ex kids)))) one) in
        let numbers : roots_in (more (rose n p kids) no_roses) ≡ roots_in (more (rose n p us) no_roses) = ap (λ (l : List Node). roots_of p ++ (l ++ [])) (sym roots) in
        record {
          becomes = record {
            nodes = more (rose n p us) no_roses;
            exprs = e;
            places = below plan_shape lp new n n [] p kids no_roses us h.nodes x;
            under = Rewrites-refl expr_shape ex (roots_in (more (rose n p us) no_roses)) e (subst (λ (ns : List Node). StandsOnce expr_shape ex ns e) numbers h.exprs);
          };
          cleared = subst (λ (q : Plan). Cleared q before) (sym after) (delayed_cleared before);
          quiet = ap (shows kinds.Rechunk) after ∙ delayed_quiet before;
          told = λ own. refl;
          left = λ own. after;
        }

-- a tree stands at the input that is told
pub input_stands : (lp : List IR) (ex : List AExpr) (n i : Node) (p : IR) → IsPlan lp ex n → slice_get lp n.0 ≡ Some p → Some i ≡ cond (groups_by_one (op_at ex p)) (first_input p) None → (t : Trees IR) × StandsOnce plan_shape lp (i ∷ []) t
input_stands lp ex n i p h entry some =
    let o = opened plan_shape lp n p h.nodes h.stands.nodes entry in
    (o.kids, subst (λ (ns : List Node). StandsOnce plan_shape lp ns o.kids) (grouped ex p i some).1 o.inputs)
