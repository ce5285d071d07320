use Rattle.plan_order_laws.proofs.States.{states_flat, states_keep, states_refine, states_share}
use Rattle.plan_order_laws.proofs.cache_laws.cache_states_refine.Goals as goal

pub returns-clause-refines : goal.returns-clause-refines
returns-clause-refines c = λ differ ids p v. states_refine differ ids p v

pub returns-clause-keeps : goal.returns-clause-keeps
returns-clause-keeps c = λ differ ids p v. states_keep differ ids p v

pub returns-clause-shared : goal.returns-clause-shared
returns-clause-shared c = λ differ ids p v h. states_share differ ids p v h

pub returns-clause-flat : goal.returns-clause-flat
returns-clause-flat c = λ differ ids p f. states_flat differ ids p f
