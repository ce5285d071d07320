use Rattle.std.proofs.Common.{All, sym, subst}
use Rattle.plan_expr.specs.declared.expr_ir.ExprIR.{ExprIR}
use Rattle.plan_expr.specs.Operands.{IsExpr}
use Rattle.plan_ir.specs.declared.ir.IR.{IR}
use Rattle.plan_ir.specs.Parts.{exprs_of}
use Rattle.plan_order.proofs.NodeExprs.{first_ones, last_ones, own_ones}
use Rattle.plan_order.proofs.demands.demands.Goals as goal

pub all_elementwise-requires : goal.all_elementwise-requires
all_elementwise-requires c = own_ones c.args.ex.now c.args.entry.now _ c.in-Sort.is c.requires _ c.as_slice.ensures

pub all_elementwise-requires-else-maintain_order : goal.all_elementwise-requires-else-maintain_order
all_elementwise-requires-else-maintain_order c =
    subst (All (λ (e : ExprIR). IsExpr c.args.ex.now e.node)) (sym c.as_slice-else-maintain_order.ensures)
    (first_ones c.args.ex.now c.in-GroupBy.keys c.in-GroupBy.aggs (subst (λ (p : IR). All (λ (e : ExprIR). IsExpr c.args.ex.now e.node) (exprs_of p)) c.in-GroupBy.is c.requires))

pub all_summaries-requires : goal.all_summaries-requires
all_summaries-requires c =
    subst (All (λ (e : ExprIR). IsExpr c.args.ex.now e.node)) (sym c.as_slice-then-all_elementwise.ensures)
    (last_ones c.args.ex.now c.in-GroupBy.keys c.in-GroupBy.aggs (subst (λ (p : IR). All (λ (e : ExprIR). IsExpr c.args.ex.now e.node) (exprs_of p)) c.in-GroupBy.is c.requires))

pub all_elementwise-requires-else-ordered-3 : goal.all_elementwise-requires-else-ordered-3
all_elementwise-requires-else-ordered-3 c = own_ones c.args.ex.now c.args.entry.now _ c.in-Select.is c.requires _ c.as_slice-else-ordered-3.ensures

pub all_elementwise-requires-else-ordered-4 : goal.all_elementwise-requires-else-ordered-4
all_elementwise-requires-else-ordered-4 c = own_ones c.args.ex.now c.args.entry.now _ c.in-HStack.is c.requires _ c.as_slice-else-ordered-4.ensures
