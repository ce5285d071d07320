use Rattle.plan_order_laws.proofs.KeptScans.{handled_keeps}
use Rattle.plan_order_laws.proofs.cache_laws.handled_caches_keep_scans.Goals as goal

pub returns : goal.returns
returns c = λ differ id p v. handled_keeps differ id p v
