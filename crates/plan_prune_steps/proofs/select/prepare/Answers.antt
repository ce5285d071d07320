use Rattle.std.proofs.Common.{ap, sym, subst, All, List}
use Rattle.std.specs.List.{slice_get}
use Rattle.plan_expr.specs.declared.expr_ir.ExprIR.{ExprIR}
use Rattle.plan_expr.specs.Operands.{IsExpr}
use Rattle.plan_ir.specs.declared.ir.IR.{IR}
use Rattle.plan_ir.specs.Parts.{inputs_of, roots_of}
use Rattle.plan_prune_parts.specs.Places.{StandExprs}
use Rattle.plan_prune_parts.proofs.KeptLemmas.{each_stands, selected_stand}
use Rattle.plan_prune_steps.proofs.select.prepare.Goals as goal

pub keep-requires : goal.keep-requires
keep-requires c = each_stands c.args.ex.now c.in-Select.expr (subst (λ (p : IR). StandExprs c.args.ex.now (roots_of p)) c.in-Select.is c.requires.exprs)

pub asks-asked-requires-clause-exprs : goal.asks-asked-requires-clause-exprs
asks-asked-requires-clause-exprs c =
    subst (λ (l : List ExprIR). All (λ (x : ExprIR). IsExpr c.args.ex.now x.node) l) (sym c.as_slice-in-Select-2.ensures)
    (selected_stand c.args.ex.now c.args.asked.now c.in-Select.expr c.in_ok-expr-in-Select.expr c.in_ok-expr-in-Select.ensures (subst (λ (p : IR). StandExprs c.args.ex.now (roots_of p)) c.in-Select.is c.requires.exprs))

pub asks-asked-requires-clause-input : goal.asks-asked-requires-clause-input
asks-asked-requires-clause-input c = c.requires.inputs 0 c.in-Select.input (ap (λ (p : IR). slice_get (inputs_of p) 0) c.in-Select.is)

pub counts_rows-is_count-requires : goal.counts_rows-is_count-requires
counts_rows-is_count-requires c =
    subst (λ (l : List ExprIR). All (λ (x : ExprIR). IsExpr c.args.ex.now x.node) l) (sym c.as_slice.ensures)
    (each_stands c.args.ex.now c.in-Select.expr (subst (λ (p : IR). StandExprs c.args.ex.now (roots_of p)) c.in-Select.is c.requires.exprs))
