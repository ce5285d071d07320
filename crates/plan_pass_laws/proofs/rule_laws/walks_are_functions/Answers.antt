use Rattle.plan_pass_laws.proofs.WalksOne.{walks_one}
use Rattle.plan_pass_laws.proofs.rule_laws.walks_are_functions.Goals as goal

pub returns : goal.returns
returns c = λ kinds p q r u w. walks_one kinds p q r u w
