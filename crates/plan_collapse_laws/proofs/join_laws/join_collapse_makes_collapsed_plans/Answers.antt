use Rattle.plan_collapse_laws.proofs.CollapsedSites.{collapsed_is}
use Rattle.plan_collapse_laws.proofs.join_laws.join_collapse_makes_collapsed_plans.Goals as goal

pub returns : goal.returns
returns c = λ p v. collapsed_is p v
