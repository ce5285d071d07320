use Rattle.plan_core.specs.Columns.{names_of}
use Rattle.plan_meaning.proofs.JoinLemmas.{distinct_differ}
use Rattle.plan_check_parts.proofs.join_columns.names_differ.Goals as goal

pub returns : goal.returns
returns c = distinct_differ (names_of c.args.schema.now) c.len-count.ensures.distinct
