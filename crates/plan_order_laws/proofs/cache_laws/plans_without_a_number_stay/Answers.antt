use Rattle.plan_order_laws.proofs.FreePlans.{narrowed_free, none_sites, removed_free}
use Rattle.plan_order_laws.proofs.cache_laws.plans_without_a_number_stay.Goals as goal

pub returns-clause-sites : goal.returns-clause-sites
returns-clause-sites c = λ id above ts f. none_sites id above ts f

pub returns-clause-narrowed : goal.returns-clause-narrowed
returns-clause-narrowed c = λ id read ts f. narrowed_free id read ts f

pub returns-clause-removed : goal.returns-clause-removed
returns-clause-removed c = λ id within ts f. removed_free id within ts f
