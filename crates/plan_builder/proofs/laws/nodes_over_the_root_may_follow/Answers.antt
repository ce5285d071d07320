use Rattle.plan_builder.proofs.Follow.{over_follow}
use Rattle.plan_builder.proofs.laws.nodes_over_the_root_may_follow.Goals as goal

pub returns : goal.returns
returns c = over_follow
