use Rattle.std.proofs.Common.{◌≡◌, take}
use Rattle.plan_frame.specs.Aggregates.{distinct}
use Rattle.plan_value.specs.Shown.{values_of}
use Rattle.plan_value.proofs.aggregates.count_distinct.Given as goal

-- each of the values up to here is there once
abbrev pub invariant-loop-value : goal.invariant-loop-value
invariant-loop-value l = values_of l.seen.keys ≡ distinct (values_of (take l.value-index l.values))
