use Rattle.plan_join.specs.Pairs.{both}
use Rattle.plan_collapse_laws.proofs.JoinFrames.{chain-joined}
use Rattle.plan_collapse_laws.proofs.join_laws.filtered_joins_keep_pairs.Goals as goal

pub returns : goal.returns
returns c = λ args lk rk f g es ps w. chain-joined args lk rk f g (both 0 0) es ps w
