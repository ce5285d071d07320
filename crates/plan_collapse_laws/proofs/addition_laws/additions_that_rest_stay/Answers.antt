use Rattle.plan_collapse_laws.proofs.Shapes.{met_left}
use Rattle.plan_collapse_laws.proofs.addition_laws.additions_that_rest_stay.Goals as goal

pub returns : goal.returns
returns c = λ u l below r. met_left u l below r
