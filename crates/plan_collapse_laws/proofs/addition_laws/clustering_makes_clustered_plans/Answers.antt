use Rattle.plan_collapse_laws.proofs.Shapes.{clustered_is}
use Rattle.plan_collapse_laws.proofs.addition_laws.clustering_makes_clustered_plans.Goals as goal

pub returns : goal.returns
returns c = λ p v. clustered_is p v
