use Rattle.plan_frame.proofs.SameValues.{value_decides}
use Rattle.plan_frame.proofs.laws.same_values_are_equal.Goals as goal

pub returns : goal.returns
returns c = λ x y. value_decides x y
