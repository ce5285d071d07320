use Rattle.plan_pass_laws.proofs.WalkCaches.{walks_from}
use Rattle.plan_pass_laws.proofs.rule_laws.walks_leave_caches_over_walked_plans.Goals as goal

pub returns : goal.returns
returns c = λ kinds p q w cached among. walks_from kinds p q w cached among
