use Rattle.std.proofs.Common.{◌≡◌, true, take}
use Rattle.plan_pruned.specs.JoinPruned.{are_called_alike}
use Rattle.plan_prune_parts.specs.Left.{name_now}
use Rattle.plan_prune_parts.proofs.top.are_alike.Given as goal

-- the names up to here are called as they were
abbrev pub invariant-loop-name : goal.invariant-loop-name
invariant-loop-name l = are_called_alike (name_now l.names) (take l.name-index l.asked) ≡ true
