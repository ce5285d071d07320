use Rattle.plan_pass_laws.proofs.AlikeAnswers.{answer_alike}
use Rattle.plan_pass_laws.proofs.rule_laws.alike_plans_get_alike_answers.Goals as goal

pub returns : goal.returns
returns c = λ kind p. answer_alike kind p
