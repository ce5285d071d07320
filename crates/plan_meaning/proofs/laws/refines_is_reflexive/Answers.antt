use Rattle.plan_meaning.proofs.Refining.{refines_refl}
use Rattle.plan_meaning.proofs.laws.refines_is_reflexive.Goals as goal

pub returns : goal.returns
returns c = λ p v. refines_refl p v
