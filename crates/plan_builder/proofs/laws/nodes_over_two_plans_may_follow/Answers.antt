use Rattle.plan_builder.proofs.Joining.{over_two_follow}
use Rattle.plan_builder.proofs.laws.nodes_over_two_plans_may_follow.Goals as goal

pub returns : goal.returns
returns c = over_two_follow
