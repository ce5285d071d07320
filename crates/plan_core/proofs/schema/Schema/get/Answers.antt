use Rattle.std.proofs.Common.{◌∙◌, refl}
use Rattle.plan_core.proofs.ColumnLemmas.{type_of-seen}
use Rattle.plan_core.proofs.schema.Schema.get.Goals as goal

pub returns : goal.returns
returns c = c.get.ensures.value ∙ type_of-seen c.in_ok-fields.fields.now.entries c.args.name.now ∙ rw c.in_ok-fields.ensures.some refl
