use Rattle.plan_order_laws.proofs.OrderScans.{ordered_keeps, scans_ordered}
use Rattle.plan_order_laws.proofs.demand_laws.ordered_plans_keep_scans.Goals as goal

pub returns-clause-same : goal.returns-clause-same
returns-clause-same c = λ d p v. scans_ordered d p v

pub returns-clause-kept : goal.returns-clause-kept
returns-clause-kept c = λ d p v. ordered_keeps d p v
