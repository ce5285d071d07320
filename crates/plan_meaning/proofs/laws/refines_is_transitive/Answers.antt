use Rattle.plan_meaning.proofs.Refining.{refines_trans}
use Rattle.plan_meaning.proofs.laws.refines_is_transitive.Goals as goal

pub returns : goal.returns
returns c = λ r q p a b. refines_trans r q p a b
