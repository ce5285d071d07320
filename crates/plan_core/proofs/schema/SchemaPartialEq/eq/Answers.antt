use Rattle.std.proofs.Common.{◌∙◌, refl}
use Rattle.plan_core.proofs.SameLemmas.{same_columns-Decides, same_columns-seen}
use Rattle.plan_core.proofs.schema.SchemaPartialEq.eq.Goals as goal

pub returns-clause-value : goal.returns-clause-value
returns-clause-value c =
    c.eq.ensures
    ∙ same_columns-seen c.entries.result c.entries-2.result
    ∙ rw (c.entries.ensures.columns, c.entries-2.ensures.columns) refl

pub returns-clause-same : goal.returns-clause-same
returns-clause-same c = same_columns-Decides c.args.self.now c.args.other.now c.eq.result (returns-clause-value c)
