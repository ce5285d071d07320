use Rattle.std.proofs.Common.{◌∙◌, refl}
use Rattle.plan_hive.proofs.EntryLemmas.{lookup-seen}
use Rattle.plan_hive.proofs.path_values.PathValues.get.Goals as goal

pub returns : goal.returns
returns c = c.get.ensures.value ∙ lookup-seen c.self.inside.values.entries c.args.name.now ∙ rw c.self.view_is refl
