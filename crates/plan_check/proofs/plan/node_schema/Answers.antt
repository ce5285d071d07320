use Rattle.std.proofs.Common.{◌∙◌, All, List, ap, sym, subst}
use Rattle.plan_expr.specs.declared.expr_ir.ExprIR.{ExprIR}
use Rattle.plan_expr.specs.Operands.{IsExpr}
use Rattle.plan_ir.specs.Parts.{exprs_of}
use Rattle.plan_check.proofs.plan.node_schema.Goals as goal

pub select_schema-requires : goal.select_schema-requires
select_schema-requires c = subst (λ (es : List ExprIR). All (λ (e : ExprIR). IsExpr c.args.ex.now e.node) es) (ap exprs_of c.in-Select.is ∙ sym c.as_slice.ensures) c.requires.exprs

pub hstack_schema-requires : goal.hstack_schema-requires
hstack_schema-requires c = subst (λ (es : List ExprIR). All (λ (e : ExprIR). IsExpr c.args.ex.now e.node) es) (ap exprs_of c.in-HStack.is ∙ sym c.as_slice-in-HStack.ensures) c.requires.exprs
