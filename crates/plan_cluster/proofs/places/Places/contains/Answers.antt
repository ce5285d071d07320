use Rattle.std.proofs.Common.{◌∙◌, refl}
use Rattle.plan_core.proofs.NameLemmas.{has-seen}
use Rattle.plan_cluster.proofs.places.Places.contains.Goals as goal

pub returns : goal.returns
returns c = c.contains.ensures ∙ has-seen c.self.inside.names.keys c.args.name.now ∙ rw c.self.view_is refl
