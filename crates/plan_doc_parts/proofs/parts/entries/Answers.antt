use Rattle.serde_json.specs.View.{view}
use Rattle.plan_doc_parts.proofs.EntryLemmas.{entries_are, no_entries}
use Rattle.plan_doc_parts.proofs.parts.entries.Goals as goal

pub returns-in-Some : goal.returns-in-Some
returns-in-Some c = rw c.as_slice.ensures.value (entries_are c.in-Some.entries.now.items (view c.args.value.now) c.in-Some.ensures)

pub returns-in-None : goal.returns-in-None
returns-in-None c = no_entries (view c.args.value.now) c.in-None.ensures
