use Rattle.plan_round_trip.proofs.Plans.{plan_again}
use Rattle.plan_round_trip.proofs.laws.written_plans_read_back.Goals as goal

pub returns : goal.returns
returns c = λ lp ex root said. plan_again lp ex root said
