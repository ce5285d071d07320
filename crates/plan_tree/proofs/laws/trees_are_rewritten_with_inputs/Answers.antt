use Rattle.plan_tree.proofs.Replaced.{below}
use Rattle.plan_tree.proofs.laws.trees_are_rewritten_with_inputs.Goals as goal

pub returns : goal.returns
returns g c = λ S old new n m ns p kids rest us s x. below S old new n m ns p kids rest us s x
