use Rattle.std.proofs.Common.{◌≡◌, take}
use Rattle.std.specs.Int.{w64, int_wrap}
use Rattle.plan_frame.specs.Aggregates.{total}
use Rattle.plan_value.specs.Shown.{values_of}
use Rattle.plan_value.proofs.aggregates.sum.Given as goal

-- the sum of the values up to here
abbrev pub invariant-loop-value : goal.invariant-loop-value
invariant-loop-value l = l.sum ≡ int_wrap w64 (total (values_of (take l.value-index l.values)))
