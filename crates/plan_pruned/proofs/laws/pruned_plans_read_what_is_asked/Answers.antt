use Rattle.plan_pruned.proofs.PrunedReads.{pruned_reads}
use Rattle.plan_pruned.proofs.laws.pruned_plans_read_what_is_asked.Goals as goal

pub returns : goal.returns
returns c = λ top p v. pruned_reads top p v
