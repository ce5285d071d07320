use Rattle.std.proofs.Common.{refl}
use Rattle.plan_order_laws.proofs.cache_laws.filters_on_caches_are_worked_out.Goals as goal

pub returns-clause-caches : goal.returns-clause-caches
returns-clause-caches c = λ options. refl

pub returns-clause-reads : goal.returns-clause-reads
returns-clause-reads c = λ options. refl

pub returns-clause-pruned : goal.returns-clause-pruned
returns-clause-pruned c = λ options. refl
