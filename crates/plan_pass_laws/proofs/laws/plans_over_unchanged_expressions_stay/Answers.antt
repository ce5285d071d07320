use Rattle.plan_pass_laws.proofs.KeptPlans.{op_kept, plans_kept}
use Rattle.plan_pass_laws.proofs.laws.plans_over_unchanged_expressions_stay.Goals as goal

pub returns-clause-node : goal.returns-clause-node
returns-clause-node c = λ ex grown changed keeps p h. op_kept ex grown changed keeps p h

pub returns-clause-plans : goal.returns-clause-plans
returns-clause-plans c = λ ex grown changed keeps t h. plans_kept ex grown changed keeps t h
