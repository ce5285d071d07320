use Rattle.plan_tree.proofs.Roots.{StandsOnce-longer}
use Rattle.plan_tree.proofs.laws.trees_stand_in_a_longer_arena.Goals as goal

pub returns : goal.returns
returns g c = λ S lp q ns t s. StandsOnce-longer S lp q ns t s
