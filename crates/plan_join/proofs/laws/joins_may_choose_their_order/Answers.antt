use Rattle.plan_join.proofs.OwnJoins.{own_joins}
use Rattle.plan_join.proofs.laws.joins_may_choose_their_order.Goals as goal

pub returns : goal.returns
returns c = λ told left_on right_on f g frame h. own_joins told left_on right_on f g frame h
