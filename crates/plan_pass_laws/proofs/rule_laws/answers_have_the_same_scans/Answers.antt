use Rattle.plan_pass_laws.proofs.AnswerLaws.{answer_keeps, answer_scans}
use Rattle.plan_pass_laws.proofs.rule_laws.answers_have_the_same_scans.Goals as goal

pub returns-clause-scans : goal.returns-clause-scans
returns-clause-scans c = λ p q h. answer_scans p q h

pub returns-clause-keeps : goal.returns-clause-keeps
returns-clause-keeps c = λ p q h. answer_keeps p q h
