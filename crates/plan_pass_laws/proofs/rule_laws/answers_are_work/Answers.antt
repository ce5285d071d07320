use Rattle.plan_pass_laws.proofs.Reworked.{reworked_answer}
use Rattle.plan_pass_laws.proofs.rule_laws.answers_are_work.Goals as goal

pub returns : goal.returns
returns c = λ kind q p refines keeps lighter smaller. reworked_answer kind q p refines keeps lighter smaller
