-- Whether expressions have a form, by whether their operands have.
use Rattle.std.proofs.Common.{◌≡◌, ◌&&◌, Bool, true, false, List, [], ◌∷◌, map, Some, refl, ap, ap₂, ◌∙◌}
use Rattle.std.specs.List.{slice_get, list_all}
use Rattle.plan_core.specs.declared.arena.Node.{Node}
use Rattle.plan_expr.specs.declared.aexpr.AExpr.{AExpr}
use Rattle.plan_expr.specs.Operands.{IsExpr, operands_of}
use Rattle.plan_expr.specs.Exprs.{expr_op, expr_at, exprs_at}
use Rattle.plan_expr.proofs.ExprLemmas.{expr_open}
use Rattle.plan_expr.specs.Forms.{form_by, has_form, have_form, scalars}
use Rattle.plan_expr.specs.Scalars.{is_scalar}

scalars-at : (ex : List AExpr) (ns : List Node) → scalars (exprs_at ex ns) ≡ map (λ (n : Node). is_scalar (expr_at ex n)) ns
scalars-at ex [] = refl
scalars-at ex (n ∷ ns) = ap (λ (bs : List Bool). is_scalar (expr_at ex n) ∷ bs) (scalars-at ex ns)

have-form-at : (ex : List AExpr) (ns : List Node) → have_form (exprs_at ex ns) ≡ list_all (λ (m : Node). has_form (expr_at ex m)) ns
have-form-at ex [] = refl
have-form-at ex (n ∷ ns) = ap (λ (b : Bool). has_form (expr_at ex n) && b) (have-form-at ex ns)

-- an expression has a form by whether it may stand over its operands, and these all have
pub form-open : (ex : List AExpr) (n : Node) (p : AExpr) → IsExpr ex n → slice_get ex n.0 ≡ Some p → has_form (expr_at ex n) ≡ (form_by (expr_op p) (map (λ (m : Node). is_scalar (expr_at ex m)) (operands_of p)) && list_all (λ (m : Node). has_form (expr_at ex m)) (operands_of p))
form-open ex n p h e =
    ap has_form (expr_open ex n p h e)
    ∙ ap₂ (λ (bs : List Bool) (b : Bool). form_by (expr_op p) bs && b) (scalars-at ex (operands_of p)) (have-form-at ex (operands_of p))

pub and-false : (a b : Bool) → b ≡ false → (a && b) ≡ false
and-false true b e = e
and-false false b e = refl
