use Rattle.plan_order_laws.proofs.MarksPruned.{pruned_marks}
use Rattle.plan_order_laws.proofs.MarksKept.{handled_marks}
use Rattle.plan_order_laws.proofs.cache_laws.handled_caches_keep_marks.Goals as goal

pub returns-clause-pruned : goal.returns-clause-pruned
returns-clause-pruned c = λ top asked p v. pruned_marks top asked p v

pub returns-clause-handled : goal.returns-clause-handled
returns-clause-handled c = λ differ id p v. handled_marks differ id p v
