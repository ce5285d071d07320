use Rattle.std.proofs.Common.{◌≡◌, take}
use Rattle.plan_scan.specs.Stats.{with_values}
use Rattle.plan_scan.proofs.partitions.stats_with.Given as goal

-- the columns so far are there with their values
abbrev pub invariant-loop-i : goal.invariant-loop-i
invariant-loop-i l = l.stats ≡ take l.i (with_values l.schema l.values)
