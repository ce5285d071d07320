use Rattle.std.proofs.Common.{◌∙◌, refl}
use Rattle.plan_core.proofs.PlaceLemmas.{place_of-seen, stands_there, stands_nowhere}
use Rattle.plan_core.proofs.schema.Schema.index_of.Goals as goal

pub returns-clause-place : goal.returns-clause-place
returns-clause-place c = c.get_index_of.ensures.index ∙ place_of-seen c.in_ok-fields.fields.now.entries c.args.name.now ∙ rw c.in_ok-fields.ensures.some refl

pub returns-clause-stands : goal.returns-clause-stands
returns-clause-stands c = stands_there c.args.self.now c.args.name.now c.get_index_of.result (returns-clause-place c)

pub returns-clause-absent : goal.returns-clause-absent
returns-clause-absent c = stands_nowhere c.args.self.now c.args.name.now c.get_index_of.result (returns-clause-place c)
