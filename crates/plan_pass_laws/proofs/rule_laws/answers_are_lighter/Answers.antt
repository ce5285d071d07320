use Rattle.plan_pass_laws.proofs.AnswerLaws.{answer_lighter, answer_smaller}
use Rattle.plan_pass_laws.proofs.rule_laws.answers_are_lighter.Goals as goal

pub returns-clause-weight : goal.returns-clause-weight
returns-clause-weight c = λ p q h. answer_lighter p q h

pub returns-clause-bulk : goal.returns-clause-bulk
returns-clause-bulk c = λ p q h. answer_smaller p q h
