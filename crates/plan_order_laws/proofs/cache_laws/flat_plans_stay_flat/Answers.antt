use Rattle.plan_order_laws.proofs.HandledFlat.{handled_flat}
use Rattle.plan_order_laws.proofs.HandledAll.{all_flat}
use Rattle.plan_order_laws.proofs.cache_laws.flat_plans_stay_flat.Goals as goal

pub returns-clause-one : goal.returns-clause-one
returns-clause-one c = λ differ id p f. handled_flat differ id p f

pub returns-clause-all : goal.returns-clause-all
returns-clause-all c = λ differ ids p f. all_flat differ ids p f
