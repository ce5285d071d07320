use Rattle.plan_tree.proofs.Roots.{StandsOnce-topped}
use Rattle.plan_tree.proofs.laws.trees_stand_over_a_new_entry.Goals as goal

pub returns : goal.returns
returns g c = λ S lp q n ns ms t e i b s. StandsOnce-topped S lp q n ns ms t e i b s
