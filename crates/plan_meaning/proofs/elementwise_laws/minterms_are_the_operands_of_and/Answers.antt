use Rattle.std.proofs.Common.{refl}
use Rattle.plan_meaning.proofs.elementwise_laws.minterms_are_the_operands_of_and.Goals as goal

pub returns : goal.returns
returns c = refl
