use Rattle.plan_order_laws.proofs.SharedNarrowed.{narrowed_same, renewed_same}
use Rattle.plan_order_laws.proofs.SharedRemoved.{removed_same}
use Rattle.plan_order_laws.proofs.SinglePlans.{single_same}
use Rattle.plan_order_laws.proofs.cache_laws.alike_plans_are_handled_alike.Goals as goal

pub returns-clause-renewed : goal.returns-clause-renewed
returns-clause-renewed c = λ read p. renewed_same read p

pub returns-clause-narrowed : goal.returns-clause-narrowed
returns-clause-narrowed c = λ id read under p. narrowed_same id read under p

pub returns-clause-removed : goal.returns-clause-removed
returns-clause-removed c = λ id within p. removed_same id within p

pub returns-clause-single : goal.returns-clause-single
returns-clause-single c = λ p. single_same p
