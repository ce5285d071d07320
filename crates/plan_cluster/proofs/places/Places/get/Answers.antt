use Rattle.std.proofs.Common.{◌∙◌, refl}
use Rattle.plan_cluster.proofs.NameLemmas.{position-seen}
use Rattle.plan_cluster.proofs.places.Places.get.Goals as goal

pub returns : goal.returns
returns c = c.get_index_of.ensures.index ∙ position-seen c.self.inside.names.keys c.args.name.now ∙ rw c.self.view_is refl
