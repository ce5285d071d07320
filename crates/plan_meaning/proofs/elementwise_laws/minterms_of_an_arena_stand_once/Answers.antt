use Rattle.plan_meaning.proofs.MintermTrees.{minterm-within, minterms-are, minterms-stand_once}
use Rattle.plan_meaning.proofs.elementwise_laws.minterms_of_an_arena_stand_once.Goals as goal

pub returns-clause-once : goal.returns-clause-once
returns-clause-once c = λ ex ns t s. minterms-stand_once ex ns t s

pub returns-clause-within : goal.returns-clause-within
returns-clause-within c = λ t k r. minterm-within t k r

pub returns-clause-bare : goal.returns-clause-bare
returns-clause-bare c = λ ex ns t s. minterms-are ex ns t s
