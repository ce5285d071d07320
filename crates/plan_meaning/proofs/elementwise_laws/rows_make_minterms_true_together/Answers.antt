use Rattle.plan_meaning.proofs.Minterms.{true-minterms}
use Rattle.plan_meaning.proofs.elementwise_laws.rows_make_minterms_true_together.Goals as goal

pub returns : goal.returns
returns c = λ f i e even w. true-minterms f even i e w
