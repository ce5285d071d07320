use Rattle.plan_order_laws.proofs.OrderedRefines.{ordered_reorders}
use Rattle.plan_order_laws.proofs.demand_laws.undemanded_plans_are_reordered.Goals as goal

pub returns : goal.returns
returns c = λ p v. ordered_reorders p v
