use Rattle.plan_collapse_laws.proofs.Collapsed.{collapsing_refines}
use Rattle.plan_collapse_laws.proofs.join_laws.collapsed_plans_refine.Goals as goal

pub returns : goal.returns
returns c = λ p v. collapsing_refines p v
