use Rattle.plan_join.proofs.JoinedLemmas.{joins-exist}
use Rattle.plan_join.proofs.laws.each_join_has_a_frame.Goals as goal

pub returns : goal.returns
returns c = joins-exist
