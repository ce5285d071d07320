use Rattle.plan_tree.proofs.Roots.{StandsOnce-shuffled}
use Rattle.plan_tree.proofs.laws.trees_stand_in_any_order.Goals as goal

pub returns : goal.returns
returns g c = λ S lp ns ms h. StandsOnce-shuffled S lp ns ms h
