use Rattle.plan_top.proofs.steps.cluster_step.Goals as goal

pub returns-clause-kept : goal.returns-clause-kept
returns-clause-kept c = rw c.cluster_with_columns-ran.ensures at c.in_ok-keep_if.ensures.kept
