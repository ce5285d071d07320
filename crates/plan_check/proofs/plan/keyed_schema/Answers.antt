use Rattle.std.proofs.Common.{◌∙◌, All, List, ap, sym, subst}
use Rattle.plan_expr.specs.declared.expr_ir.ExprIR.{ExprIR}
use Rattle.plan_expr.specs.Operands.{IsExpr}
use Rattle.plan_ir.specs.Parts.{exprs_of}
use Rattle.plan_check.proofs.GroupFaults.{keys_stand, aggs_stand}
use Rattle.plan_check.proofs.plan.keyed_schema.Goals as goal

pub sort_schema-requires : goal.sort_schema-requires
sort_schema-requires c = subst (λ (es : List ExprIR). All (λ (e : ExprIR). IsExpr c.args.ex.now e.node) es) (ap exprs_of c.in-Sort.is ∙ sym c.as_slice.ensures) c.requires.exprs

pub group_by_schema-requires-clause-keys : goal.group_by_schema-requires-clause-keys
group_by_schema-requires-clause-keys c =
    let all = subst (λ (es : List ExprIR). All (λ (e : ExprIR). IsExpr c.args.ex.now e.node) es) (ap exprs_of c.in-GroupBy.is) c.requires.exprs in
    subst (λ (es : List ExprIR). All (λ (e : ExprIR). IsExpr c.args.ex.now e.node) es) (sym c.as_slice-in-GroupBy.ensures) (keys_stand c.args.ex.now _ _ all)

pub group_by_schema-requires-clause-aggs : goal.group_by_schema-requires-clause-aggs
group_by_schema-requires-clause-aggs c =
    let all = subst (λ (es : List ExprIR). All (λ (e : ExprIR). IsExpr c.args.ex.now e.node) es) (ap exprs_of c.in-GroupBy.is) c.requires.exprs in
    subst (λ (es : List ExprIR). All (λ (e : ExprIR). IsExpr c.args.ex.now e.node) es) (sym c.as_slice-in-GroupBy-2.ensures) (aggs_stand c.args.ex.now _ _ all)
