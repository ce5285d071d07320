use Rattle.std.proofs.Common.{◌≡◌, ◌∙◌, ap, ap₂, sym, subst, All, List}
use Rattle.std.proofs.lemmas.Result.{IfOk-at_ok, IfOk-weaker}
use Rattle.plan_expr.specs.declared.expr_ir.ExprIR.{ExprIR}
use Rattle.plan_ir.specs.declared.ir.IR.{IR}
use Rattle.plan_ir.specs.declared.ir.IR.TheVariants.{HStack}
use Rattle.plan_ir.specs.Parts.{roots_of}
use Rattle.plan_expr.specs.Operands.{IsExpr}
use Rattle.plan_expr.specs.Exprs.{all_named_at}
use Rattle.plan_expr.specs.Leaves.{Name}
use Rattle.plan_prune_parts.specs.declared.step.Step.TheVariants.{Over}
use Rattle.plan_prune_parts.specs.Kept.{asks_after}
use Rattle.plan_prune_parts.specs.Places.{StandExprs}
use Rattle.plan_prune_parts.specs.Said.{columns_at}
use Rattle.plan_prune_steps.specs.Steps.{step_of}
use Rattle.plan_prune_parts.proofs.KeptLemmas.{stacked_stand}
use Rattle.plan_prune_steps.proofs.hstack.prepare.Goals as goal

pub asks-asked-requires-clause-exprs : goal.asks-asked-requires-clause-exprs
asks-asked-requires-clause-exprs c =
    subst (λ (l : List ExprIR). All (λ (x : ExprIR). IsExpr c.args.ex.now x.node) l) (sym c.as_slice.ensures)
    (stacked_stand c.args.ex.now c.args.asked c.in-HStack.exprs c.in-Ok.exprs c.in-Ok.ensures (subst (λ (p : IR). StandExprs c.args.ex.now (roots_of p)) c.in-HStack.is c.requires.exprs))

pub returns-in-Ok : goal.returns-in-Ok
returns-in-Ok c =
    IfOk-weaker c.over.result _ _
    (λ step made.
    made.2
    ∙ ap₂ (λ (l : List Name) (ks : List ExprIR). Over c.in-HStack.input l (HStack c.in-HStack.input ks c.in-HStack.schema c.in-HStack.options))
    (IfOk-at_ok (λ (l : List Name). l ≡ asks_after c.args.asked (all_named_at c.args.ex.now c.as_slice.result.now) (columns_at c.args.lp.now c.args.ex.now c.in-HStack.input)) made.1 c.asks-asked.ensures
    ∙ ap (λ (l : List ExprIR). asks_after c.args.asked (all_named_at c.args.ex.now l) (columns_at c.args.lp.now c.args.ex.now c.in-HStack.input)) (c.as_slice.ensures ∙ c.in-Ok.ensures))
    c.in-Ok.ensures
    ∙ ap (step_of c.args.lp.now c.args.ex.now c.args.asked) (sym c.in-HStack.is))
    c.over.ensures
