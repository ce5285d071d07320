use Rattle.plan_order_laws.proofs.NarrowedRefines.{narrowed_left}
use Rattle.plan_order_laws.proofs.RenewedNarrows.{renews}
use Rattle.plan_order_laws.proofs.cache_laws.narrowed_sites_refine.Goals as goal

pub returns : goal.returns
returns c = λ id read p v h. narrowed_left renews id read p v h
