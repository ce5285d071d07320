use Rattle.std.proofs.Common.{◌∙◌, sym, subst}
use Rattle.plan_expr.specs.declared.expr_ir.ExprIR.{ExprIR}
use Rattle.plan_expr.specs.Operands.{IsExpr}
use Rattle.plan_rule.proofs.OwnColumns.{own_end, own_next, own_not}
use Rattle.plan_rule.proofs.collapse.are_own_columns.Goals as goal

pub is_own_column-requires : goal.is_own_column-requires
is_own_column-requires c = subst (λ (e : ExprIR). IsExpr c.args.ex.now e.node) (sym c.expr-item.is) (c.requires c.loop-expr.expr-index c.expr-item.result c.loop-expr-test.true)

pub returns-then-not-is_own_column : goal.returns-then-not-is_own_column
returns-then-not-is_own_column c = own_not c.args.ex.now c.args.exprs.now c.loop-expr.expr-index c.expr-item.result c.loop-expr-test.true c.expr-item.is (sym c.is_own_column.ensures ∙ c.if-not-is_own_column.true) c.loop-expr.invariant

pub loop-expr-preserved : goal.loop-expr-preserved
loop-expr-preserved c = own_next c.args.ex.now c.args.exprs.now c.loop-expr.expr-index c.expr-item.result c.loop-expr-test.true c.expr-item.is (sym c.is_own_column.ensures ∙ c.if-not-is_own_column.false) c.loop-expr.invariant

pub returns : goal.returns
returns c = own_end c.args.ex.now c.args.exprs.now c.loop-expr.expr-index c.loop-expr-test.false c.loop-expr.invariant
