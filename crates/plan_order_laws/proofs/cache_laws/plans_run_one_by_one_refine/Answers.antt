use Rattle.plan_order_laws.proofs.SingleRefines.{single_keeps, single_refines}
use Rattle.plan_order_laws.proofs.cache_laws.plans_run_one_by_one_refine.Goals as goal

pub returns-clause-refines : goal.returns-clause-refines
returns-clause-refines c = λ p v. single_refines p v

pub returns-clause-keeps : goal.returns-clause-keeps
returns-clause-keeps c = λ p. single_keeps p
