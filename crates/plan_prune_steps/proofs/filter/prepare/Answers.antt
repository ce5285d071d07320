use Rattle.std.proofs.Common.{◌≡◌, ◌∙◌, ap, List}
use Rattle.std.proofs.lemmas.Result.{IfOk-at_ok, IfOk-weaker}
use Rattle.plan_ir.specs.declared.ir.IR.TheVariants.{Filter}
use Rattle.plan_expr.specs.Exprs.{expr_at}
use Rattle.plan_expr.specs.Leaves.{Name, leaves}
use Rattle.plan_pruned.specs.Pruned.{asked_with}
use Rattle.plan_prune_parts.specs.declared.step.Step.TheVariants.{Over}
use Rattle.plan_prune_steps.proofs.filter.prepare.Goals as goal

pub returns : goal.returns
returns c =
    IfOk-weaker c.over.result _ _
    (λ step made.
    made.2
    ∙ ap (λ (l : List Name). Over c.args.input l (Filter c.args.input c.args.predicate))
    (IfOk-at_ok (λ (l : List Name). l ≡ asked_with c.args.asked (leaves (expr_at c.args.ex.now c.args.predicate.node))) made.1 c.asks.ensures))
    c.over.ensures
