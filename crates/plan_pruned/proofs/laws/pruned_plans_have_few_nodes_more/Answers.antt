use Rattle.plan_pruned.proofs.PrunedReads.{pruned_nodes}
use Rattle.plan_pruned.proofs.laws.pruned_plans_have_few_nodes_more.Goals as goal

pub returns : goal.returns
returns c = λ top p v. pruned_nodes top p v
