use Rattle.plan_order_laws.proofs.SharedNarrowed.{narrowed_from}
use Rattle.plan_order_laws.proofs.SharedRemoved.{removed_from}
use Rattle.plan_order_laws.proofs.SinglePlans.{single_from}
use Rattle.plan_order_laws.proofs.cache_laws.caches_are_left_over_handled_plans.Goals as goal

pub returns-clause-narrowed : goal.returns-clause-narrowed
returns-clause-narrowed c = λ id read p cached h. narrowed_from id read p cached h

pub returns-clause-removed : goal.returns-clause-removed
returns-clause-removed c = λ id within p cached h. removed_from id within p cached h

pub returns-clause-single : goal.returns-clause-single
returns-clause-single c = λ p cached h. single_from p cached h
