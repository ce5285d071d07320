use Rattle.plan_pass_laws.proofs.Reworked.{reworks_beside, reworks_under}
use Rattle.plan_pass_laws.proofs.rule_laws.work_is_done_beside_and_below.Goals as goal

pub returns-clause-beside : goal.returns-clause-beside
returns-clause-beside c = λ kinds q p qs ps d e h k. reworks_beside kinds q p qs ps d e h k

pub returns-clause-below : goal.returns-clause-below
returns-clause-below c = λ kinds op us ts d v h. reworks_under kinds op us ts d v h
