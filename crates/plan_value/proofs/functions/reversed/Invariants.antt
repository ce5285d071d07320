use Rattle.std.proofs.Common.{◌≡◌, ◌++◌, length, reverse}
use Rattle.plan_value.specs.Shown.{values_of}
use Rattle.plan_value.proofs.functions.reversed.Given as goal

-- what is moved, and then what is left from the last value to the first
abbrev pub invariant-loop-value : goal.invariant-loop-value
invariant-loop-value l = values_of l.reversed ++ reverse (values_of l.values) ≡ reverse (values_of l.fn.values)

abbrev pub decreases-loop-value : goal.decreases-loop-value
decreases-loop-value l = length l.values
