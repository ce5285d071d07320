use Rattle.plan_table.proofs.EntryLemmas.{distinct-seen}
use Rattle.plan_table.proofs.columns.Columns.into_values.Goals as goal

pub returns-clause-distinct : goal.returns-clause-distinct
returns-clause-distinct c = rw (← c.self.view_is) (distinct-seen c.self.inside.columns.entries c.self.invariant.0 c.self.invariant.1)
