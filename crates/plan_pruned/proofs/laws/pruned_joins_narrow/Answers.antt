use Rattle.plan_pruned.proofs.JoinNarrows.{join_narrows}
use Rattle.plan_pruned.proofs.laws.pruned_joins_narrow.Goals as goal

pub returns : goal.returns
returns c = join_narrows
