use Rattle.plan_round_trip.proofs.Plans.{plan_said}
use Rattle.plan_round_trip.proofs.laws.plans_that_are_read_are_said.Goals as goal

pub returns : goal.returns
returns c = λ d lp ex root canonical read. plan_said d lp ex root canonical read
