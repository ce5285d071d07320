use Rattle.plan_pruned.proofs.PrunedReads.{pruned_keeps}
use Rattle.plan_pruned.proofs.laws.pruned_plans_keep_scans.Goals as goal

pub returns : goal.returns
returns c = λ top p v. pruned_keeps top p v
