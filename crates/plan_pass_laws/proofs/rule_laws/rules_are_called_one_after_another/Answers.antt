use Rattle.plan_pass_laws.proofs.Reworked.{after_exprs, top_next}
use Rattle.plan_pass_laws.proofs.rule_laws.rules_are_called_one_after_another.Goals as goal

pub returns-clause-next : goal.returns-clause-next
returns-clause-next c = λ kinds kind r q p d e h quiet j still. top_next kinds kind r q p d e h quiet j still

pub returns-clause-exprs : goal.returns-clause-exprs
returns-clause-exprs c = λ kinds r q p d e h quiet k. after_exprs kinds r q p d e h quiet k
