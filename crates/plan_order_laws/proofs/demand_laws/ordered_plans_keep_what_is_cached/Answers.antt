use Rattle.plan_order_laws.proofs.SharedOrder.{caches_from, shared_ordered}
use Rattle.plan_order_laws.proofs.demand_laws.ordered_plans_keep_what_is_cached.Goals as goal

pub returns-clause-from : goal.returns-clause-from
returns-clause-from c = λ d p cached among. caches_from d p cached among

pub returns-clause-shared : goal.returns-clause-shared
returns-clause-shared c = λ d p shared. shared_ordered d p shared
