use Rattle.plan_order_laws.proofs.FlatRemoved.{others_removed, removed_none, removed_sites}
use Rattle.plan_order_laws.proofs.cache_laws.removed_caches_leave_no_site.Goals as goal

pub returns-clause-none : goal.returns-clause-none
returns-clause-none c = λ id within p v. removed_none id within p v

pub returns-clause-own : goal.returns-clause-own
returns-clause-own c = λ id p v. removed_sites id p v

pub returns-clause-others : goal.returns-clause-others
returns-clause-others c = λ id k p differ v f. others_removed id k differ p v f
