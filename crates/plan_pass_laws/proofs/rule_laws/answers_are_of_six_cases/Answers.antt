use Rattle.plan_pass_laws.proofs.AnswerViews.{answered}
use Rattle.plan_pass_laws.proofs.rule_laws.answers_are_of_six_cases.Goals as goal

pub returns : goal.returns
returns c = λ kind p q e. answered kind p q e
