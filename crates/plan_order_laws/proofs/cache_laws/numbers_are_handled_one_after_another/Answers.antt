use Rattle.plan_order_laws.proofs.HandledAll.{all_keeps, all_refines, all_shared}
use Rattle.plan_order_laws.proofs.cache_laws.numbers_are_handled_one_after_another.Goals as goal

pub returns-clause-refines : goal.returns-clause-refines
returns-clause-refines c = λ differ ids p v. all_refines differ ids p v

pub returns-clause-keeps : goal.returns-clause-keeps
returns-clause-keeps c = λ differ ids p v. all_keeps differ ids p v

pub returns-clause-shared : goal.returns-clause-shared
returns-clause-shared c = λ differ ids p v h. all_shared differ ids p v h
