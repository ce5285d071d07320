use Rattle.plan_frame.proofs.Sound.{val_single}
use Rattle.plan_frame.proofs.laws.scalar_expressions_have_one_value.Goals as goal

pub returns : goal.returns
returns c = λ e f h. (val_single e h).at f
