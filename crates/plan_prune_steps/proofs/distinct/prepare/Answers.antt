use Rattle.std.proofs.Common.{ap, List}
use Rattle.plan_ir.specs.declared.ir.IR.TheVariants.{Distinct}
use Rattle.plan_expr.specs.Leaves.{Name}
use Rattle.plan_prune_parts.specs.declared.step.Step.TheVariants.{Over}
use Rattle.plan_prune_steps.proofs.distinct.prepare.Goals as goal

pub returns-clause-step : goal.returns-clause-step
returns-clause-step c = λ ex.
    ap (λ (l : List Name). Over c.args.input l (Distinct c.args.input c.args.options))
    (c.in_ok-asked.ensures.names ex)
