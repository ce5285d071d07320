use Rattle.plan_pass_laws.proofs.Reworked.{reworks_cleared, reworks_refl, reworks_trans, reworks_weaker}
use Rattle.plan_pass_laws.proofs.rule_laws.work_is_done_step_after_step.Goals as goal

pub returns-clause-none : goal.returns-clause-none
returns-clause-none c = λ kinds ps v. reworks_refl kinds ps v

pub returns-clause-cleared : goal.returns-clause-cleared
returns-clause-cleared c = λ kinds qs ps v h. reworks_cleared kinds qs ps v h

pub returns-clause-more : goal.returns-clause-more
returns-clause-more c = λ kinds rs qs ps d e h k. reworks_trans kinds rs qs ps d e h k

pub returns-clause-weaker : goal.returns-clause-weaker
returns-clause-weaker c = λ kinds others qs ps d sub h. reworks_weaker kinds others qs ps d sub h
