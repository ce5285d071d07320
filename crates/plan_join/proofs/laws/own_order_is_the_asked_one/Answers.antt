use Rattle.plan_join.proofs.OrderLemmas.{own-asked}
use Rattle.plan_join.proofs.laws.own_order_is_the_asked_one.Goals as goal

pub returns : goal.returns
returns c = own-asked
