use Rattle.plan_tree.proofs.Replaced.{after}
use Rattle.plan_tree.proofs.laws.trees_are_rewritten_with_those_behind.Goals as goal

pub returns : goal.returns
returns g c = λ S old new n m ns p kids rest us s x. after S old new n m ns p kids rest us s x
