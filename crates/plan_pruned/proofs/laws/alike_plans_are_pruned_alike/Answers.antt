use Rattle.plan_pruned.proofs.AlikePruned.{alike_pruned}
use Rattle.plan_pruned.proofs.laws.alike_plans_are_pruned_alike.Goals as goal

pub returns : goal.returns
returns c = λ top asked p q alike. alike_pruned top asked p q alike
