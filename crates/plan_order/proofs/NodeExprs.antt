-- The expressions of a node, each of which stands.
use Rattle.std.proofs.Common.{◌≡◌, ◌∙◌, ◌++◌, All, List, [], ◌∷◌, length, map, Some, sym, ap, subst}
use Rattle.std.specs.List.{slice_get}
use Rattle.std.proofs.lemmas.List.Elements.{All-cons, All-drop, All-nil, All-take}
use Rattle.std.proofs.Math.Seq.{drop-append_seam, take-append_seam}
use Rattle.plan_core.specs.declared.arena.Node.{Node}
use Rattle.plan_tree.specs.Rose.{rose, no_roses, more}
use Rattle.plan_tree.specs.Stands.{StandsOnce, Trees}
use Rattle.plan_expr.specs.declared.aexpr.AExpr.{AExpr}
use Rattle.plan_expr.specs.declared.expr_ir.ExprIR.{ExprIR}
use Rattle.plan_expr.specs.Operands.{IsExpr, expr_shape}
use Rattle.plan_expr.proofs.ExprLemmas.{first_stands, rest_stands}
use Rattle.plan_ir.specs.declared.ir.IR.{IR}
use Rattle.plan_ir.specs.Parts.{IsPlan, exprs_of, roots_of}
use Rattle.plan_ir.proofs.PlanLemmas.{plan_exprs}

-- each of some expressions stands
each_stands : (ex : List AExpr) (es : List ExprIR) (f : Trees AExpr) → StandsOnce expr_shape ex (map (λ (e : ExprIR). e.node) es) f → All (λ (e : ExprIR). IsExpr ex e.node) es
each_stands ex [] f h = All-nil (λ (e : ExprIR). IsExpr ex e.node)
each_stands ex (e ∷ es) no_roses h = absurd h.stands
each_stands ex (e ∷ es) (more (rose m p kids) rest) h =
    All-cons (λ (x : ExprIR). IsExpr ex x.node) e es
    (more (rose m p kids) no_roses, first_stands ex e.node m (map (λ (x : ExprIR). x.node) es) p kids rest h)
    (each_stands ex es rest (rest_stands ex e.node m (map (λ (x : ExprIR). x.node) es) p kids rest h))

-- the expressions of a node stand
pub node_exprs : (ex : List AExpr) (p : IR) → ((e : Trees AExpr) × StandsOnce expr_shape ex (roots_of p) e) → All (λ (e : ExprIR). IsExpr ex e.node) (exprs_of p)
node_exprs ex p h = each_stands ex (exprs_of p) h.0 h.1

-- the expressions of a plan's node stand
pub exprs_stand : (lp : List IR) (ex : List AExpr) (n : Node) (p : IR) → IsPlan lp ex n → slice_get lp n.0 ≡ Some p → All (λ (e : ExprIR). IsExpr ex e.node) (exprs_of p)
exprs_stand lp ex n p h entry = node_exprs ex p (plan_exprs lp ex n p h entry)

-- the expressions of a node of one kind
pub own_ones : (ex : List AExpr) (p q : IR) → p ≡ q → All (λ (e : ExprIR). IsExpr ex e.node) (exprs_of p) → (es : List ExprIR) → es ≡ exprs_of q → All (λ (e : ExprIR). IsExpr ex e.node) es
own_ones ex p q is h es same = subst (All (λ (e : ExprIR). IsExpr ex e.node)) (ap exprs_of is ∙ sym same) h

-- the first of two lists of expressions that stand, and the last
pub first_ones : (ex : List AExpr) (keys aggs : List ExprIR) → All (λ (e : ExprIR). IsExpr ex e.node) (keys ++ aggs) → All (λ (e : ExprIR). IsExpr ex e.node) keys
first_ones ex keys aggs h = subst (All (λ (e : ExprIR). IsExpr ex e.node)) (take-append_seam keys aggs) (All-take (λ (e : ExprIR). IsExpr ex e.node) (length keys) (keys ++ aggs) h)

pub last_ones : (ex : List AExpr) (keys aggs : List ExprIR) → All (λ (e : ExprIR). IsExpr ex e.node) (keys ++ aggs) → All (λ (e : ExprIR). IsExpr ex e.node) aggs
last_ones ex keys aggs h = subst (All (λ (e : ExprIR). IsExpr ex e.node)) (drop-append_seam keys aggs) (All-drop (λ (e : ExprIR). IsExpr ex e.node) (length keys) (keys ++ aggs) h)
