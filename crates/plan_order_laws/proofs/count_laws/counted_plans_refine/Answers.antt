use Rattle.plan_order_laws.proofs.CountRefines.{counted_refines, not_countable}
use Rattle.plan_order_laws.proofs.count_laws.counted_plans_refine.Goals as goal

pub returns-clause-refines : goal.returns-clause-refines
returns-clause-refines c = λ p v. counted_refines p v

pub returns-clause-given : goal.returns-clause-given
returns-clause-given c = λ p e. not_countable p e
