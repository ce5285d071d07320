use Rattle.plan_collapse_laws.proofs.Refining.{clustered_refines}
use Rattle.plan_collapse_laws.proofs.addition_laws.clustered_plans_refine.Goals as goal

pub returns : goal.returns
returns c = λ p v. clustered_refines p v
