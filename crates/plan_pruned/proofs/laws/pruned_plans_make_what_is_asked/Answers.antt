use Rattle.plan_pruned.proofs.PrunedWork.{pruned_made}
use Rattle.plan_pruned.proofs.laws.pruned_plans_make_what_is_asked.Goals as goal

pub returns : goal.returns
returns c = λ top p v. pruned_made top p v
