use Rattle.plan_order_laws.proofs.RankedOnce.{ranked_sites}
use Rattle.plan_order_laws.proofs.States.{states_sites}
use Rattle.plan_order_laws.proofs.cache_laws.ranked_sites_are_told.Goals as goal

pub returns-clause-ranked : goal.returns-clause-ranked
returns-clause-ranked c = λ differ p cached v f h. ranked_sites differ p cached v f h

pub returns-clause-once : goal.returns-clause-once
returns-clause-once c = λ differ before after id first rest p v f. states_sites differ before after id first rest p v f
