use Rattle.plan_round_trip.proofs.Renumbered.{renumbered_said}
use Rattle.plan_round_trip.proofs.laws.renumbered_plans_are_said.Goals as goal

pub returns : goal.returns
returns c = λ lp ex root copy plan said anew few_nodes few_exprs. renumbered_said lp ex root copy plan anew few_nodes few_exprs said
