use Rattle.plan_frame.proofs.Depends.{val_depends}
use Rattle.plan_frame.proofs.laws.meaning_depends_on_leaves.Goals as goal

pub returns : goal.returns
returns c = λ e f g h. val_depends e f g h
