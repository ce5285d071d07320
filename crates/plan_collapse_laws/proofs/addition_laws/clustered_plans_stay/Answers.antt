use Rattle.plan_collapse_laws.proofs.Shapes.{clustered_idle}
use Rattle.plan_collapse_laws.proofs.addition_laws.clustered_plans_stay.Goals as goal

pub returns : goal.returns
returns c = λ p h. clustered_idle p h
