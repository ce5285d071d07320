use Rattle.plan_pass_laws.proofs.WalkCaches.{walk_shared}
use Rattle.plan_pass_laws.proofs.rule_laws.walks_keep_sharing.Goals as goal

pub returns : goal.returns
returns c = λ kinds p q w shared. walk_shared kinds p q w shared
