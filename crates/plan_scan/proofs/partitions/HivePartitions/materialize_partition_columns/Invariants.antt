use Rattle.std.proofs.Common.{◌≡◌, take, map}
use Rattle.plan_scan.specs.Stats.{one_row}
use Rattle.plan_scan.proofs.partitions.HivePartitions.materialize_partition_columns.Given as goal

-- the columns so far are there
abbrev pub invariant-loop-stat : goal.invariant-loop-stat
invariant-loop-stat l = l.columns ≡ map one_row (take l.stat-index l.stat-items)
