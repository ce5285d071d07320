use Rattle.plan_pass_laws.proofs.AnswerLaws.{answer_caches, answer_shared}
use Rattle.plan_pass_laws.proofs.rule_laws.answers_keep_what_is_cached.Goals as goal

pub returns-clause-kept : goal.returns-clause-kept
returns-clause-kept c = λ p q h cached among. answer_caches p q h cached among

pub returns-clause-shared : goal.returns-clause-shared
returns-clause-shared c = λ p q h shared. answer_shared p q h shared
