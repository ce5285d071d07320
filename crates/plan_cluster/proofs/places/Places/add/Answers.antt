use Rattle.std.proofs.Common.{◌∙◌, ap, refl}
use Rattle.plan_core.proofs.NameLemmas.{bytes, with-seen}
use Rattle.plan_cluster.proofs.places.Places.add.Goals as goal

pub returns : goal.returns
returns c = ap bytes c.in_ok-insert.ensures.keys ∙ with-seen c.self.inside.names.keys c.in_ok-owned.owned ∙ rw (c.self.view_is, c.in_ok-owned.ensures.ok) refl
