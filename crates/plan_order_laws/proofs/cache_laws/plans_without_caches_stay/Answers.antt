use Rattle.plan_order_laws.proofs.RankedOnce.{ranked_idle}
use Rattle.plan_order_laws.proofs.States.{states_idle}
use Rattle.plan_order_laws.proofs.cache_laws.plans_without_caches_stay.Goals as goal

pub returns-clause-ranked : goal.returns-clause-ranked
returns-clause-ranked c = λ differ p e. ranked_idle differ p e

pub returns-clause-none : goal.returns-clause-none
returns-clause-none c = λ differ p e. states_idle differ p e
