use Rattle.plan_meaning.proofs.ValidChoose.{valid_plans_choose}
use Rattle.plan_meaning.proofs.choice_laws.valid_plans_choose.Goals as goal

pub returns : goal.returns
returns c = λ contents p v fit. valid_plans_choose contents p v fit
