use Rattle.plan_pass_laws.proofs.ClearedPlans.{cleared_alike, cleared_bulk, cleared_keeps, cleared_weight}
use Rattle.plan_pass_laws.proofs.rule_laws.cleared_plans_differ_in_marks_alone.Goals as goal

pub returns-clause-keeps : goal.returns-clause-keeps
returns-clause-keeps c = λ q p h. cleared_keeps q p h

pub returns-clause-weight : goal.returns-clause-weight
returns-clause-weight c = λ q p h. cleared_weight q p h

pub returns-clause-bulk : goal.returns-clause-bulk
returns-clause-bulk c = λ q p h. cleared_bulk q p h

pub returns-clause-alike : goal.returns-clause-alike
returns-clause-alike c = λ q p h. cleared_alike q p h
