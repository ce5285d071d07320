use Rattle.plan_collapse_laws.proofs.KeyTests.{equality_holds, inequality_holds}
use Rattle.plan_collapse_laws.proofs.join_laws.pairs_make_minterms_true_where_keys_match.Goals as goal

pub returns-clause-equal : goal.returns-clause-equal
returns-clause-equal c = λ args s t f g i j e k all apart once_s once_t hf hg li lj p q. equality_holds args all s t apart once_s once_t f g hf hg i j li lj e k p q

pub returns-clause-unequal : goal.returns-clause-unequal
returns-clause-unequal c = λ args s t f g i j e k all apart once_s once_t hf hg li lj p q. inequality_holds args all s t apart once_s once_t f g hf hg i j li lj e k p q
