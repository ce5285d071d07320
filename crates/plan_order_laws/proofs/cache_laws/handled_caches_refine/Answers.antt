use Rattle.plan_order_laws.proofs.HandledRefines.{handled_refines}
use Rattle.plan_order_laws.proofs.cache_laws.handled_caches_refine.Goals as goal

pub returns : goal.returns
returns c = λ differ id p v. handled_refines differ id p v
