use Rattle.plan_expr.proofs.SameTrees.{same_tree_is}
use Rattle.plan_expr.proofs.laws.same_trees_are_equal.Goals as goal

pub returns : goal.returns
returns c = λ x y. same_tree_is x y
