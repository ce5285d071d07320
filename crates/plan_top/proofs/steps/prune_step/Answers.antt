use Rattle.plan_top.proofs.steps.prune_step.Goals as goal

pub returns-clause-kept : goal.returns-clause-kept
returns-clause-kept c = rw c.projection_pushdown-ran.ensures at c.in_ok-keep_if.ensures.kept
