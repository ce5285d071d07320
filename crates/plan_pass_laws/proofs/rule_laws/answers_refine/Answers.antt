use Rattle.plan_pass_laws.proofs.AnswerLaws.{answer_refines}
use Rattle.plan_pass_laws.proofs.rule_laws.answers_refine.Goals as goal

pub returns : goal.returns
returns c = λ p q h v. answer_refines p q h v
