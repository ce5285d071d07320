use Rattle.plan_order_laws.proofs.SinglePlans.{single_shared}
use Rattle.plan_order_laws.proofs.SingleSites.{single_flat, single_sites}
use Rattle.plan_order_laws.proofs.cache_laws.plans_run_one_by_one_keep_caches.Goals as goal

pub returns-clause-shared : goal.returns-clause-shared
returns-clause-shared c = λ p h. single_shared p h

pub returns-clause-flat : goal.returns-clause-flat
returns-clause-flat c = λ p f. single_flat p f

pub returns-clause-sites : goal.returns-clause-sites
returns-clause-sites c = λ id p v f. single_sites id p v f
