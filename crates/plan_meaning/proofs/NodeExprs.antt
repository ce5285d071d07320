-- The expressions of a node of a plan.
use Rattle.std.proofs.Common.{◌≡◌, List, All, map, get_or, Some, option_map, ap, ◌∙◌}
use Rattle.std.specs.List.{slice_get}
use Rattle.std.proofs.lemmas.List.Elements.{All-from_get_or}
use Rattle.std.proofs.lemmas.Option.{slice_get-get_or, slice_get-map}
use Rattle.plan_core.specs.declared.arena.Node.{Node}
use Rattle.plan_expr.specs.declared.aexpr.AExpr.{AExpr}
use Rattle.plan_expr.specs.declared.expr_ir.ExprIR.{ExprIR}
use Rattle.plan_expr.specs.declared.expr_ir.OutputName.TheVariants.{None}
use Rattle.plan_expr.specs.Operands.{IsExpr}
use Rattle.plan_ir.specs.declared.ir.IR.{IR}
use Rattle.plan_ir.specs.Parts.{exprs_of, IsPlan}
use Rattle.plan_ir.proofs.PlanLemmas.{plan_expr}

-- the expressions of a node of a plan stand
pub all_stand : (lp : List IR) (ex : List AExpr) (n : Node) (p : IR) (es : List ExprIR) → IsPlan lp ex n → slice_get lp n.0 ≡ Some p → exprs_of p ≡ es → All (λ (e : ExprIR). IsExpr ex e.node) es
all_stand lp ex n p es h entry are =
    let d : ExprIR = record { node = n; output_name = None } in
    All-from_get_or (λ (e : ExprIR). IsExpr ex e.node) es d (λ i lt.
    plan_expr lp ex n p h entry i (get_or es i d).node
    (ap (λ (l : List ExprIR). slice_get (map (λ (e : ExprIR). e.node) l) i) are ∙ slice_get-map (λ (e : ExprIR). e.node) es i ∙ ap (option_map (λ (e : ExprIR). e.node)) (slice_get-get_or es i d lt)))
