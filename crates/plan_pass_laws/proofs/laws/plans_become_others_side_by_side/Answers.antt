use Rattle.plan_pass_laws.proofs.BesideBecome.{become_beside}
use Rattle.plan_pass_laws.proofs.laws.plans_become_others_side_by_side.Goals as goal

pub returns : goal.returns
returns c = λ a b d x y z f h j e apart inside away within ns ms p q. become_beside a b d x y z f h j e apart inside away within ns ms p q
