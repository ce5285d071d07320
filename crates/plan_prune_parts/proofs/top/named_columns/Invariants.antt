use Rattle.std.proofs.Common.{◌≡◌, take}
use Rattle.plan_pruned.specs.JoinPruned.{named_now}
use Rattle.plan_prune_parts.specs.Left.{name_now}
use Rattle.plan_prune_parts.proofs.top.named_columns.Given as goal

-- the names up to here with their types
abbrev pub invariant-loop-i : goal.invariant-loop-i
invariant-loop-i l = l.named ≡ named_now (name_now l.names) l.columns (take l.i l.asked)
