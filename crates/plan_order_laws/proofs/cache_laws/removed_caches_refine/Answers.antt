use Rattle.plan_order_laws.proofs.RemovedRefines.{removed_refines}
use Rattle.plan_order_laws.proofs.cache_laws.removed_caches_refine.Goals as goal

pub returns : goal.returns
returns c = λ id within p v. removed_refines id within p v
