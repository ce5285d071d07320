use Rattle.plan_pass_laws.proofs.ClearedPlans.{cleared_refl, cleared_trans}
use Rattle.plan_pass_laws.proofs.rule_laws.marks_are_cleared_one_after_another.Goals as goal

pub returns-clause-none : goal.returns-clause-none
returns-clause-none c = λ p. cleared_refl p

pub returns-clause-more : goal.returns-clause-more
returns-clause-more c = λ r q p h k. cleared_trans r q p h k
