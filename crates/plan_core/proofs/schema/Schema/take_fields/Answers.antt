use Rattle.plan_core.proofs.ColumnLemmas.{HasDistinctNames-none}
use Rattle.plan_core.proofs.schema.Schema.take_fields.Goals as goal

pub invariant_of-self-2 : goal.invariant_of-self-2
invariant_of-self-2 c = rw c.take.ensures.after HasDistinctNames-none
