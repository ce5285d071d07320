use Rattle.plan_core.proofs.NameLemmas.{distinct-seen}
use Rattle.plan_core.proofs.names.Names.new.Goals as goal

pub invariant_of-result : goal.invariant_of-result
invariant_of-result c = distinct-seen c.new.result.keys c.new.ensures.unique
