-- An expression of an arena is elementwise exactly where all that it reaches works row by row.
use Rattle.std.proofs.Common.{◌≡◌, ◌∙◌, ◌&&◌, Bool, true, false, List, [], ◌∷◌, refl, ap, ap₂}
use Rattle.std.specs.List.{list_all}
use Rattle.std.proofs.lemmas.List.Folds.{list_all-append}
use Rattle.plan_core.specs.declared.arena.Node.{Node}
use Rattle.plan_tree.specs.Read.{tree_at}
use Rattle.plan_tree.specs.Rose.{rose, no_roses, more, items}
use Rattle.plan_tree.specs.Stands.{Trees, StandsOnce}
use Rattle.plan_tree.proofs.ReadLemmas.{tree_at-is}
use Rattle.plan_expr.specs.declared.aexpr.AExpr.{AExpr}
use Rattle.plan_expr.specs.declared.aexpr.AExpr.TheVariants as exprs
use Rattle.plan_expr.specs.Exprs.{bare_exprs, expr_at, expr_op, one_expr}
use Rattle.plan_expr.specs.Operands.{expr_shape, IsExpr}
use Rattle.plan_expr.specs.Walks.{reached, works_row_wise}
use Rattle.plan_meaning.specs.JoinChecks.{are_elementwise, is_elementwise, works_by_row}

own_row_wise : (p : AExpr) → works_row_wise p ≡ works_by_row (expr_op p)
own_row_wise (exprs.Column name) = refl
own_row_wise (exprs.Literal value) = refl
own_row_wise (exprs.Alias input name) = refl
own_row_wise (exprs.BinaryExpr left op right) = refl
own_row_wise (exprs.Ternary predicate truthy falsy) = refl
own_row_wise (exprs.Agg agg) = refl
own_row_wise (exprs.Function input function options) = refl
own_row_wise (exprs.Window function partition_by) = refl
own_row_wise exprs.Len = refl

and_assoc : (a b c : Bool) → (a && (b && c)) ≡ ((a && b) && c)
and_assoc true b c = refl
and_assoc false b c = refl

and_true : (b : Bool) → (b && true) ≡ b
and_true true = refl
and_true false = refl

elementwise_all : (t : Trees AExpr) → list_all works_row_wise (items t) ≡ are_elementwise (bare_exprs t)
elementwise_all no_roses = refl
elementwise_all (more (rose n p kids) rest) =
    ap (λ (b : Bool). works_row_wise p && b) (list_all-append works_row_wise (items kids) (items rest) ∙ ap₂ (λ (x y : Bool). x && y) (elementwise_all kids) (elementwise_all rest))
    ∙ ap (λ (b : Bool). b && (are_elementwise (bare_exprs kids) && are_elementwise (bare_exprs rest))) (own_row_wise p)
    ∙ and_assoc (works_by_row (expr_op p)) (are_elementwise (bare_exprs kids)) (are_elementwise (bare_exprs rest))

elementwise_one : (ex : List AExpr) (n : Node) (t : Trees AExpr) → StandsOnce expr_shape ex (n ∷ []) t → are_elementwise (bare_exprs t) ≡ is_elementwise (one_expr (bare_exprs t))
elementwise_one ex n no_roses h = absurd h.stands
elementwise_one ex n (more (rose m p kids) no_roses) h = and_true (is_elementwise (one_expr (bare_exprs (more (rose m p kids) no_roses))))
elementwise_one ex n (more (rose m p kids) (more (rose k q below) rest)) h = absurd h.stands.4

pub elementwise_at : (ex : List AExpr) (n : Node) → IsExpr ex n → list_all works_row_wise (reached ex n) ≡ is_elementwise (expr_at ex n)
elementwise_at ex n h =
    let is = tree_at-is expr_shape ex n h.0 h.1 in
    elementwise_all (tree_at expr_shape ex n) ∙ elementwise_one ex n (tree_at expr_shape ex n) (rw is h.1)
