use Rattle.plan_tree.proofs.Roots.{StandsOnce-picked}
use Rattle.plan_tree.proofs.laws.trees_stand_over_picked_numbers.Goals as goal

pub returns : goal.returns
returns g c = λ S lp ns ms rest t h s. StandsOnce-picked S lp ns ms rest t h s
