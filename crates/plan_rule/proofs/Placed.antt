-- What a call of a rule leaves, where what stands at its number stays, or where a node comes in its place.
use Rattle.std.proofs.Common.{◌≡◌, ℕ, Bool, false, List, [], ◌∷◌, ◌++◌, All, map, Some, None, refl, sym, ap, ◌∙◌, subst, inl}
use Rattle.std.specs.List.{slice_get, slice_set}
use Rattle.std.proofs.lemmas.List.Elements.{All-cons, All-nil}
use Rattle.plan_core.specs.declared.arena.Node.{Node}
use Rattle.plan_tree.specs.Rose.{Roses, rose, no_roses, more}
use Rattle.plan_tree.specs.Stands.{Keeps, Reaches, Stands, StandsOnce, Trees}
use Rattle.plan_tree.proofs.Frames.{Rewrites-above, Rewrites-refl, join-right}
use Rattle.plan_tree.proofs.ReadLemmas.{trees_at-is}
use Rattle.plan_tree.proofs.SplitLemmas.{StandsOnce-split}
use Rattle.plan_tree.proofs.TreeLemmas.{opened}
use Rattle.plan_expr.specs.declared.aexpr.AExpr.{AExpr}
use Rattle.plan_expr.specs.declared.expr_ir.ExprIR.{ExprIR}
use Rattle.plan_expr.specs.Operands.{IsExpr, expr_shape}
use Rattle.plan_expr.proofs.ExprLemmas.{first_stands, rest_stands}
use Rattle.plan_ir.specs.declared.ir.IR.{IR}
use Rattle.plan_ir.specs.Parts.{IsPlan, StandsPlan, exprs_of, inputs_of, is_invalid, plan_shape, roots_in}
use Rattle.plan_ir.specs.Plans.{Op, Plan, bare, op_at, plans_of}
use Rattle.plan_ir.proofs.PlanLemmas.{plan_exprs}
use Rattle.plan_meaning.specs.PlanAt.{plan_at}
use Rattle.plan_meaning.specs.Steps.{IsValid}
use Rattle.plan_pass_laws.specs.declared.kind.RuleKind.{RuleKind}
use Rattle.plan_pass_laws.specs.Answers.{answer_of, left_by}
use Rattle.plan_pass_laws.specs.Patterns.{shows}
use Rattle.plan_pass_laws.proofs.AnswerLaws.{answer_keeps, answer_lighter, answer_refines, answer_smaller}
use Rattle.plan_pass_laws.proofs.AnswerViews.{answered}
use Rattle.plan_pass_laws.proofs.ClearedPlans.{cleared_refl}
use Rattle.plan_rule.specs.Calls.{IsBetter, Leaves, Replaces, plan_of}

-- the plan that a number reaches is that of the tree over it
pub plan_at-of : (lp : List IR) (ex : List AExpr) (n : Node) (t : Trees IR) → StandsOnce plan_shape lp (n ∷ []) t → plan_at lp ex n ≡ plan_of ex t
plan_at-of lp ex n t h = ap (λ (u : Trees IR). plan_of ex u) (trees_at-is plan_shape lp (n ∷ []) t h)

-- one tree is one plan
one_tree : (lp : List IR) (ex : List AExpr) (n : Node) (t : Trees IR) → Stands plan_shape lp (n ∷ []) t → bare (plans_of ex t) ≡ more (plan_of ex t) no_roses
one_tree lp ex n no_roses h = absurd h
one_tree lp ex n (more (rose m p kids) no_roses) h = refl
one_tree lp ex n (more (rose m p kids) (more (rose k q us) rest)) h = absurd h.4

-- the plan over a node with one input
pub over_one : (lp : List IR) (ex : List AExpr) (n i : Node) (p : IR) (t : Trees IR) → StandsOnce plan_shape lp (n ∷ []) t → slice_get lp n.0 ≡ Some p → inputs_of p ≡ i ∷ [] → plan_at lp ex n ≡ rose tt (op_at ex p) (more (plan_at lp ex i) no_roses)
over_one lp ex n i p t h entry only =
    let o = opened plan_shape lp n p t h entry in
    let lower : StandsOnce plan_shape lp (i ∷ []) o.kids = subst (λ (ns : List Node). StandsOnce plan_shape lp ns o.kids) only o.inputs in
    plan_at-of lp ex n t h
    ∙ ap (λ (f : Trees IR). plan_of ex f) o.is
    ∙ ap (λ (ts : Roses (Unit {0}) Op). rose tt (op_at ex p) ts) (one_tree lp ex i o.kids lower.stands ∙ ap (λ (r : Plan). more r no_roses) (sym (plan_at-of lp ex i o.kids lower)))

-- what a kind answers is better
pub is_better : (kind : RuleKind) (p q : Plan) → IsValid p → answer_of kind p ≡ Some q → IsBetter kind q p
is_better kind p q v e =
    let a = answered kind p q e in
    record { refines = answer_refines p q a v; keeps = answer_keeps p q a; lighter = answer_lighter p q a; smaller = λ c. answer_smaller p q a }

-- nothing changed, and no pattern stands there
pub stays : (kind : RuleKind) (own : Bool) (lp : List IR) (ex : List AExpr) (n : Node) (t : Trees IR) (e : Trees AExpr) → StandsPlan lp ex n t e → shows kind (plan_of ex t) ≡ false → answer_of kind (plan_of ex t) ≡ None → left_by kind (plan_of ex t) ≡ plan_of ex t → Leaves kind own lp lp ex ex n t e
stays kind own lp ex n t e h quiet none left = record {
  becomes = record { nodes = t; exprs = e; places = Rewrites-refl plan_shape lp (n ∷ []) t h.nodes; under = Rewrites-refl expr_shape ex (roots_in t) e h.exprs };
  cleared = cleared_refl (plan_of ex t);
  quiet = quiet;
  told = λ o. none;
  left = λ o. sym left;
}

-- trees over the last of some numbers, which reach no more than all do
pub record Last (ex : List AExpr) (ns : List Node) (e : Trees AExpr) : Type 0 where
  pub trees : Trees AExpr
  pub stand : StandsOnce expr_shape ex ns trees
  pub part : (k : ℕ) → Reaches trees k → Reaches e k

pub last_exprs : (ex : List AExpr) (before ns : List Node) (e : Trees AExpr) → StandsOnce expr_shape ex (before ++ ns) e → Last ex ns e
last_exprs ex before ns e h =
    let s = StandsOnce-split expr_shape ex before ns e h in
    record { trees = s.right; stand = s.second; part = λ k r. subst (λ (f : Trees AExpr). Reaches f k) (sym s.is) (join-right expr_shape s.left s.right k r) }

pub same_numbers : (ex : List AExpr) (ns ms : List Node) (e : Trees AExpr) → ns ≡ ms → Last ex ns e → Last ex ms e
same_numbers ex ns ms e same l = record { trees = l.trees; stand = subst (λ (xs : List Node). StandsOnce expr_shape ex xs l.trees) same l.stand; part = l.part }

module _ (kind : RuleKind) (own : Bool) (lp new : List IR) (ex : List AExpr) (n : Node) (p q : IR) (kids below : Trees IR) (e : Trees AExpr) where
  -- another node comes in the place of a node, over inputs that reach no more, and makes what the kind answers
  pub put_at : StandsPlan lp ex n (more (rose n p kids) no_roses) e → IsValid (plan_at lp ex n) → Keeps lp new (more (rose n p kids) no_roses) → StandsOnce plan_shape new (inputs_of q) below → ((k : ℕ) → Reaches below k → Reaches kids k) → is_invalid q ≡ false → Last ex (roots_in (more (rose n q below) no_roses)) e → answer_of kind (plan_of ex (more (rose n p kids) no_roses)) ≡ Some (plan_of ex (more (rose n q below) no_roses)) → Replaces kind own lp (slice_set new n.0 q) ex ex n (more (rose n p kids) no_roses) e
  put_at h v keeps stand part whole exprs told = record {
    becomes = record {
      nodes = more (rose n q below) no_roses;
      exprs = exprs.trees;
      places = Rewrites-above plan_shape lp new n p q kids below h.nodes keeps stand (λ k r. inl (part k r)) whole;
      under = record { stands = exprs.stand; keeps = (Rewrites-refl expr_shape ex (roots_in (more (rose n p kids) no_roses)) e h.exprs).keeps; within = λ k r. inl (exprs.part k r) };
    };
    better = is_better kind (plan_of ex (more (rose n p kids) no_roses)) (plan_of ex (more (rose n q below) no_roses)) (subst IsValid (plan_at-of lp ex n (more (rose n p kids) no_roses) h.nodes) v) told;
    told = λ o. told;
  }

-- each of some expressions stands
each_stands : (ex : List AExpr) (es : List ExprIR) (f : Trees AExpr) → StandsOnce expr_shape ex (map (λ (e : ExprIR). e.node) es) f → All (λ (e : ExprIR). IsExpr ex e.node) es
each_stands ex [] f h = All-nil (λ (e : ExprIR). IsExpr ex e.node)
each_stands ex (e ∷ es) no_roses h = absurd h.stands
each_stands ex (e ∷ es) (more (rose m p kids) rest) h =
    All-cons (λ (x : ExprIR). IsExpr ex x.node) e es
    (more (rose m p kids) no_roses, first_stands ex e.node m (map (λ (x : ExprIR). x.node) es) p kids rest h)
    (each_stands ex es rest (rest_stands ex e.node m (map (λ (x : ExprIR). x.node) es) p kids rest h))

-- the expressions of a plan's node stand
pub exprs_stand : (lp : List IR) (ex : List AExpr) (n : Node) (p : IR) → IsPlan lp ex n → slice_get lp n.0 ≡ Some p → All (λ (e : ExprIR). IsExpr ex e.node) (exprs_of p)
exprs_stand lp ex n p h entry =
    let e = plan_exprs lp ex n p h entry in
    each_stands ex (exprs_of p) e.0 e.1
