use Rattle.plan_order_laws.proofs.SharedNarrowed.{handled_shared}
use Rattle.plan_order_laws.proofs.cache_laws.handled_caches_stay_shared.Goals as goal

pub returns : goal.returns
returns c = λ differ id p v h. handled_shared differ id p v h
