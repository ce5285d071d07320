use Rattle.std.proofs.Common.{◌≡◌, ◌∙◌, ap, refl, sym, subst, All, List, []}
use Rattle.std.proofs.lemmas.Result.{IfOk-at_ok, IfOk-weaker}
use Rattle.plan_expr.specs.declared.expr_ir.ExprIR.{ExprIR}
use Rattle.plan_ir.specs.declared.ir.IR.{IR}
use Rattle.plan_ir.specs.declared.ir.IR.TheVariants.{Sort}
use Rattle.plan_ir.specs.Parts.{roots_of}
use Rattle.plan_expr.specs.Operands.{IsExpr}
use Rattle.plan_expr.specs.Exprs.{all_named_at}
use Rattle.plan_expr.specs.Leaves.{Name}
use Rattle.plan_frame.specs.ExprLists.{all_leaves}
use Rattle.plan_pruned.specs.Pruned.{asked_with}
use Rattle.plan_prune_parts.specs.declared.step.Step.TheVariants.{Over}
use Rattle.plan_prune_parts.specs.Places.{StandExprs}
use Rattle.plan_prune_steps.specs.Steps.{step_of}
use Rattle.plan_prune_parts.proofs.KeptLemmas.{stacked_stand}
use Rattle.plan_prune_steps.proofs.sort.prepare.Goals as goal

pub asks-asked-requires : goal.asks-asked-requires
asks-asked-requires c =
    subst (λ (l : List ExprIR). All (λ (x : ExprIR). IsExpr c.args.ex.now x.node) l) (sym c.as_slice.ensures)
    (stacked_stand c.args.ex.now [] c.in-Sort.by_column c.in-Sort.by_column refl (subst (λ (p : IR). StandExprs c.args.ex.now (roots_of p)) c.in-Sort.is c.requires.exprs))

pub returns : goal.returns
returns c =
    IfOk-weaker c.over.result _ _
    (λ step made lp.
    made.2
    ∙ ap (λ (l : List Name). Over c.in-Sort.input l (Sort c.in-Sort.input c.in-Sort.by_column c.in-Sort.slice c.in-Sort.sort_options))
    (IfOk-at_ok (λ (l : List Name). l ≡ asked_with c.args.asked (all_leaves (all_named_at c.args.ex.now c.as_slice.result.now))) made.1 c.asks-asked.ensures
    ∙ ap (λ (l : List ExprIR). asked_with c.args.asked (all_leaves (all_named_at c.args.ex.now l))) c.as_slice.ensures)
    ∙ ap (step_of lp c.args.ex.now c.args.asked) (sym c.in-Sort.is))
    c.over.ensures
