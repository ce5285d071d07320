use Rattle.plan_collapse_laws.proofs.Kept.{clustered_few}
use Rattle.plan_collapse_laws.proofs.addition_laws.clustering_makes_few_nodes.Goals as goal

pub returns : goal.returns
returns c = λ p. clustered_few p
