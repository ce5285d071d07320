use Rattle.plan_tree.proofs.Roots.{StandsOnce-opened}
use Rattle.plan_tree.proofs.laws.trees_stand_over_inputs.Goals as goal

pub returns : goal.returns
returns g c = λ S lp n p ns t e s. StandsOnce-opened S lp n p ns t e s
