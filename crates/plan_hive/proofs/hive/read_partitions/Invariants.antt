use Rattle.std.proofs.Common.{◌≡◌, None, take, map}
use Rattle.plan_hive.specs.Hive.{first_fault, partition_of, values_fault}
use Rattle.plan_hive.proofs.hive.read_partitions.Given as goal

-- the partitions of the paths so far are there, and no value has a fault
abbrev pub invariant-loop-i : goal.invariant-loop-i
invariant-loop-i l =
    (l.parts ≡ map (partition_of l.columns) (take l.i l.all))
    × (first_fault (values_fault l.columns) 0 (take l.i l.all) ≡ None)
