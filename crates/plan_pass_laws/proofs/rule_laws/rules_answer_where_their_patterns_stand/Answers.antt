use Rattle.plan_pass_laws.proofs.AnswerLaws.{collapse_shows, flatten_shows, true_filter_shows}
use Rattle.plan_pass_laws.proofs.rule_laws.rules_answer_where_their_patterns_stand.Goals as goal

pub returns-clause-collapse : goal.returns-clause-collapse
returns-clause-collapse c = λ eager p. collapse_shows eager p

pub returns-clause-flatten : goal.returns-clause-flatten
returns-clause-flatten c = λ p. flatten_shows p

pub returns-clause-true_filter : goal.returns-clause-true_filter
returns-clause-true_filter c = λ p v. true_filter_shows p v
