use Rattle.plan_collapse_laws.proofs.CollapsedIdle.{collapsed_idle}
use Rattle.plan_collapse_laws.proofs.join_laws.plans_without_runs_stay.Goals as goal

pub returns : goal.returns
returns c = λ p v h. collapsed_idle p v h
