use Rattle.plan_collapse_laws.proofs.JoinFrames.{same-joined}
use Rattle.plan_collapse_laws.proofs.join_laws.joins_of_all_columns_make_the_same.Goals as goal

pub returns : goal.returns
returns c = λ args other all rest same lk rk lj rj ps f g. same-joined args other all rest same lk rk lj rj ps f g
