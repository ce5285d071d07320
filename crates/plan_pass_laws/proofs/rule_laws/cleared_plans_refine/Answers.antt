use Rattle.plan_pass_laws.proofs.ClearedPlans.{cleared_refines}
use Rattle.plan_pass_laws.proofs.rule_laws.cleared_plans_refine.Goals as goal

pub returns : goal.returns
returns c = λ q p v h. cleared_refines q p v h
