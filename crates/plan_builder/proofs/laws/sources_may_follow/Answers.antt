use Rattle.plan_builder.proofs.Follow.{alone_follow}
use Rattle.plan_builder.proofs.laws.sources_may_follow.Goals as goal

pub returns : goal.returns
returns c = alone_follow
