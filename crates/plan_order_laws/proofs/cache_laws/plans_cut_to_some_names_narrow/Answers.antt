use Rattle.plan_order_laws.proofs.RenewedNarrows.{to_names}
use Rattle.plan_order_laws.proofs.cache_laws.plans_cut_to_some_names_narrow.Goals as goal

pub returns : goal.returns
returns c = λ a l p v d sub. to_names a l p v d sub
