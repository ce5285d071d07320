use Rattle.plan_order_laws.proofs.OrderedRefines.{ordered_refines}
use Rattle.plan_order_laws.proofs.demand_laws.ordered_plans_refine.Goals as goal

pub returns : goal.returns
returns c = λ p v. ordered_refines p v
