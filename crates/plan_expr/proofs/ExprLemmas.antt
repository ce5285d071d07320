-- What stands at the number of an expression, and at those of its operands.
use Rattle.std.proofs.Common.{◌≡◌, ℕ, ◌<◌, List, [], ◌∷◌, All, refl, sym, ap, ap₂, ◌∙◌, Some}
use Rattle.std.specs.List.{slice_get}
use Rattle.std.proofs.lemmas.List.Elements.{All-from_get_or}
use Rattle.std.proofs.lemmas.Option.{slice_get-get_or}
use Rattle.plan_core.specs.declared.arena.Node.{Node}
use Rattle.plan_tree.specs.Rose.{Roses, rose, no_roses, more}
use Rattle.plan_tree.specs.Stands.{Trees, StandsOnce}
use Rattle.plan_tree.specs.Read.{tree_at}
use Rattle.plan_tree.proofs.ReadLemmas.{tree_at-is}
use Rattle.plan_tree.proofs.TreeLemmas.{height_at, height-falls, StandsOnce-input, opened}
use Rattle.plan_expr.specs.declared.aexpr.AExpr.{AExpr}
use Rattle.plan_expr.specs.Operands.{expr_shape, operands_of, IsExpr}
use Rattle.plan_expr.specs.Exprs.{ExprOp, expr_op, one_expr, bare_exprs, expr_at, exprs_at}

-- the first of some trees that stand, and the others
pub first_stands : (ex : List AExpr) (n m : Node) (ns : List Node) (p : AExpr) (kids rest : Trees AExpr) → StandsOnce expr_shape ex (n ∷ ns) (more (rose m p kids) rest) → StandsOnce expr_shape ex (n ∷ []) (more (rose m p kids) no_roses)
first_stands ex n m ns p kids rest h = record {
  stands = (h.stands.0, h.stands.1, h.stands.2, h.stands.3, tt);
  once = (h.once.0, (λ r. r), (λ k a b. b), h.once.3, tt);
}

pub rest_stands : (ex : List AExpr) (n m : Node) (ns : List Node) (p : AExpr) (kids rest : Trees AExpr) → StandsOnce expr_shape ex (n ∷ ns) (more (rose m p kids) rest) → StandsOnce expr_shape ex ns rest
rest_stands ex n m ns p kids rest h = record { stands = h.stands.4; once = h.once.4 }

-- what is read at numbers is what stands there
pub exprs_at-is : (ex : List AExpr) (ns : List Node) (f : Trees AExpr) → StandsOnce expr_shape ex ns f → exprs_at ex ns ≡ bare_exprs f
exprs_at-is ex [] no_roses h = refl
exprs_at-is ex [] (more (rose m p kids) rest) h = absurd h.stands
exprs_at-is ex (n ∷ ns) no_roses h = absurd h.stands
exprs_at-is ex (n ∷ ns) (more (rose m p kids) rest) h =
    let t : Trees AExpr = more (rose m p kids) no_roses in
    let here : tree_at expr_shape ex n ≡ t = tree_at-is expr_shape ex n t (first_stands ex n m ns p kids rest h) in
    ap₂ (λ (x : Trees AExpr) (y : Roses (Unit {0}) ExprOp). more (one_expr (bare_exprs x)) y) here (exprs_at-is ex ns rest (rest_stands ex n m ns p kids rest h))

-- an expression is its operator over its operands
pub expr_open : (ex : List AExpr) (n : Node) (p : AExpr) → IsExpr ex n → slice_get ex n.0 ≡ Some p → expr_at ex n ≡ rose tt (expr_op p) (exprs_at ex (operands_of p))
expr_open ex n p h e =
    let o = opened expr_shape ex n p h.0 h.1 e in
    let here : tree_at expr_shape ex n ≡ more (rose n p o.kids) no_roses = tree_at-is expr_shape ex n h.0 h.1 ∙ o.is in
    ap (λ (x : Trees AExpr). one_expr (bare_exprs x)) here
    ∙ ap (λ (x : Roses (Unit {0}) ExprOp). rose tt (expr_op p) x) (sym (exprs_at-is ex (operands_of p) o.kids o.inputs))

-- an operand stands below
pub expr_down : (ex : List AExpr) (n i : Node) (p : AExpr) (j : ℕ) → IsExpr ex n → slice_get ex n.0 ≡ Some p → slice_get (operands_of p) j ≡ Some i → (height_at expr_shape ex i < height_at expr_shape ex n) × IsExpr ex i
expr_down ex n i p j h e k = (height-falls expr_shape ex n i p h.0 j h.1 e k, StandsOnce-input expr_shape ex n i p j h e k)

-- and so do all
pub exprs_down : (ex : List AExpr) (n : Node) (p : AExpr) → IsExpr ex n → slice_get ex n.0 ≡ Some p → All (IsExpr ex) (operands_of p)
exprs_down ex n p h e = All-from_get_or (IsExpr ex) (operands_of p) n (λ j lt. (expr_down ex n _ p j h e (slice_get-get_or (operands_of p) j n lt)).1)
