use Rattle.plan_order_laws.proofs.OrderScans.{counts_ordered}
use Rattle.plan_order_laws.proofs.demand_laws.ordered_plans_count_rows_where_they_did.Goals as goal

pub returns : goal.returns
returns c = λ d p v. counts_ordered d p v
