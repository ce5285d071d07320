use Rattle.serde_json.specs.View.{view}
use Rattle.plan_doc_parts.proofs.EntryLemmas.{count_is, no_count}
use Rattle.plan_doc_parts.proofs.members.member_count.Goals as goal

pub returns-in-Some : goal.returns-in-Some
returns-in-Some c = rw c.len.ensures.len (count_is c.in-Some.members.now.entries (view c.args.value.now) c.in-Some.ensures)

pub returns-in-None : goal.returns-in-None
returns-in-None c = no_count (view c.args.value.now) c.in-None.ensures
