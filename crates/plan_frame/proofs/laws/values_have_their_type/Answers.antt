use Rattle.plan_frame.proofs.Sound.{val_sound}
use Rattle.plan_frame.proofs.laws.values_have_their_type.Goals as goal

pub returns : goal.returns
returns c = λ e s f t has is. (val_sound s e).by f t has is
