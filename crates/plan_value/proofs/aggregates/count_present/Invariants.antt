use Rattle.std.proofs.Common.{◌≡◌, ◌≤◌, length, take}
use Rattle.plan_frame.specs.Aggregates.{present}
use Rattle.plan_value.specs.Shown.{values_of}
use Rattle.plan_value.proofs.aggregates.count_present.Given as goal

-- how many of the values up to here aren't null
abbrev pub invariant-loop-value : goal.invariant-loop-value
invariant-loop-value l = (l.count ≡ length (present (values_of (take l.value-index l.values)))) × (l.count ≤ l.value-index)
