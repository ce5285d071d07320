use Rattle.plan_order_laws.proofs.HandledAll.{handled_sites, missing_sites}
use Rattle.plan_order_laws.proofs.cache_laws.sites_of_flat_plans_are_told.Goals as goal

pub returns-clause-missing : goal.returns-clause-missing
returns-clause-missing c = λ differ k ids h p v f. missing_sites differ k ids h p v f

pub returns-clause-once : goal.returns-clause-once
returns-clause-once c = λ differ before after id first rest p v f. handled_sites differ before after id first rest p v f
