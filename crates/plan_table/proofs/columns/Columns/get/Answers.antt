use Rattle.std.proofs.Common.{◌∙◌, refl}
use Rattle.plan_table.proofs.EntryLemmas.{column_of-seen}
use Rattle.plan_table.proofs.columns.Columns.get.Goals as goal

pub returns : goal.returns
returns c = c.get.ensures.value ∙ column_of-seen c.self.inside.columns.entries c.args.name.now c.self.invariant.1 ∙ rw c.self.view_is refl
