use Rattle.plan_pass_laws.proofs.ClearedPatterns.{delayed_cleared, delayed_quiet}
use Rattle.plan_pass_laws.proofs.rule_laws.delayed_plans_have_no_mark_left.Goals as goal

pub returns-clause-cleared : goal.returns-clause-cleared
returns-clause-cleared c = λ p. delayed_cleared p

pub returns-clause-quiet : goal.returns-clause-quiet
returns-clause-quiet c = λ p. delayed_quiet p
