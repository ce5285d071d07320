use Rattle.plan_pass_laws.proofs.BesideBecome.{become_under}
use Rattle.plan_pass_laws.proofs.laws.plans_become_others_with_inputs.Goals as goal

pub returns : goal.returns
returns c = λ a b x y n p kids d e s own away q. become_under a b x y n p kids d e s own away q
