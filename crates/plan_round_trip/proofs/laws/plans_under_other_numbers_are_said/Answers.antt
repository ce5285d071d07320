use Rattle.plan_round_trip.proofs.Moved.{plan_moved}
use Rattle.plan_round_trip.proofs.laws.plans_under_other_numbers_are_said.Goals as goal

pub returns : goal.returns
returns c = λ nodes exprs lp ex root few_nodes few_exprs said. plan_moved nodes exprs lp ex root few_nodes few_exprs said
