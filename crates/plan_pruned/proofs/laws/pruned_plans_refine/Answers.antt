use Rattle.plan_pruned.proofs.PrunedNarrows.{pruned_refines}
use Rattle.plan_pruned.proofs.laws.pruned_plans_refine.Goals as goal

pub returns : goal.returns
returns c = λ top p v. pruned_refines top p v
