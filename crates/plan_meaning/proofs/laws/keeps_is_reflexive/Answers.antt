use Rattle.plan_meaning.proofs.Keeping.{keeps_refl}
use Rattle.plan_meaning.proofs.laws.keeps_is_reflexive.Goals as goal

pub returns : goal.returns
returns c = λ p. keeps_refl p
