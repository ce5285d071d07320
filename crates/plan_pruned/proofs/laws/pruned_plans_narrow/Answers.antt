use Rattle.plan_pruned.proofs.PrunedNarrows.{pruned_narrows}
use Rattle.plan_pruned.proofs.laws.pruned_plans_narrow.Goals as goal

pub returns : goal.returns
returns c = λ top asked p v f. pruned_narrows top asked p v f
