use Rattle.std.proofs.Common.{◌≡◌, ◌++◌}
use Rattle.plan_hive.specs.Hive.{is_read, partition_of}
use Rattle.plan_hive.proofs.hive.partition.Given as goal

-- what is there, and then what is left, is the whole; what is there is read
abbrev pub invariant-loop-name : goal.invariant-loop-name
invariant-loop-name l =
    (l.column_stats ++ partition_of l.name-iterator l.values ≡ partition_of l.columns l.values)
    × (is_read l.name-iterator l.values ≡ is_read l.columns l.values)
