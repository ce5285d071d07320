use Rattle.plan_join.proofs.JoinedLemmas.{joined-has}
use Rattle.plan_join.proofs.laws.joined_frames_have_their_columns.Goals as goal

pub returns : goal.returns
returns c args lk rk ps f g s t left right once-left once-right fits = joined-has args lk rk ps f g s t left right fits once-left once-right
