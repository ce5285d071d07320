use Rattle.plan_core.proofs.ColumnLemmas.{HasDistinctNames-none}
use Rattle.plan_core.proofs.schema.Schema.new.Goals as goal

pub invariant_of-result : goal.invariant_of-result
invariant_of-result c = HasDistinctNames-none
