use Rattle.plan_collapse_laws.proofs.KeyTests.{equality_good, inequality_good}
use Rattle.plan_collapse_laws.proofs.join_laws.keys_may_stand_in_joins.Goals as goal

pub returns-clause-equal : goal.returns-clause-equal
returns-clause-equal c = λ args s t e k all apart p q. equality_good args all s t apart e k p q

pub returns-clause-unequal : goal.returns-clause-unequal
returns-clause-unequal c = λ args s t e k all apart p q. inequality_good args all s t apart e k p q
