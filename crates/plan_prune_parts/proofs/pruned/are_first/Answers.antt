use Rattle.plan_pruned.proofs.FirstColumns.{first-distinct}
use Rattle.plan_prune_parts.proofs.pruned.are_first.Goals as goal

pub returns : goal.returns
returns c = first-distinct c.args.schema.now c.len-count.ensures.distinct
