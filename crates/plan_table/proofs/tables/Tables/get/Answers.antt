use Rattle.std.proofs.Common.{◌∙◌, refl}
use Rattle.plan_table.proofs.TableLemmas.{looked-up, formed-found}
use Rattle.plan_table.proofs.tables.Tables.get.Goals as goal

pub returns-clause-found : goal.returns-clause-found
returns-clause-found c = c.get.ensures.value ∙ looked-up c.self.inside.tables.entries c.args.key.now ∙ rw c.self.view_is refl

pub returns-clause-formed : goal.returns-clause-formed
returns-clause-formed c = formed-found c.self.inside.tables.entries c.args.key.now c.get.result c.self.invariant.tables.1 (c.get.ensures.value ∙ looked-up c.self.inside.tables.entries c.args.key.now)
