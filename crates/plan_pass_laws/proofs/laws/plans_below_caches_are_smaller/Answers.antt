use Rattle.plan_pass_laws.proofs.SmallerBelow.{never_below, smaller}
use Rattle.plan_pass_laws.proofs.laws.plans_below_caches_are_smaller.Goals as goal

pub returns-clause-nodes : goal.returns-clause-nodes
returns-clause-nodes c = λ p cached v h. smaller p cached v h

pub returns-clause-alike : goal.returns-clause-alike
returns-clause-alike c = λ p cached v h e. never_below p cached v h e
