use Rattle.plan_order_laws.proofs.FlatNarrowed.{narrowed_sites, others_narrowed}
use Rattle.plan_order_laws.proofs.cache_laws.narrowed_sites_of_flat_plans_are_told.Goals as goal

pub returns-clause-own : goal.returns-clause-own
returns-clause-own c = λ id read p v f. narrowed_sites id read p v f

pub returns-clause-others : goal.returns-clause-others
returns-clause-others c = λ id k read p differ v f. others_narrowed id read k differ p v f
