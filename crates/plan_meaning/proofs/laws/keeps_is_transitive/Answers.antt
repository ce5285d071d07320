use Rattle.plan_meaning.proofs.Keeping.{keeps_trans}
use Rattle.plan_meaning.proofs.laws.keeps_is_transitive.Goals as goal

pub returns : goal.returns
returns c = λ r q p h k. keeps_trans r q p h k
