use Rattle.std.proofs.Common.{refl}
use Rattle.plan_order_laws.proofs.cache_laws.projections_on_caches_are_worked_out.Goals as goal

pub returns-clause-shared : goal.returns-clause-shared
returns-clause-shared c = λ options. refl

pub returns-clause-reads : goal.returns-clause-reads
returns-clause-reads c = λ options. refl

pub returns-clause-pruned : goal.returns-clause-pruned
returns-clause-pruned c = λ options. refl

pub returns-clause-unshared : goal.returns-clause-unshared
returns-clause-unshared c = λ options. refl
