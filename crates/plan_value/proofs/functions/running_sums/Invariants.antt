use Rattle.std.proofs.Common.{◌≡◌, pos, take}
use Rattle.std.specs.Int.{w64, int_wrap}
use Rattle.plan_frame.specs.Aggregates.{running_sums, total}
use Rattle.plan_value.specs.Shown.{values_of}
use Rattle.plan_value.proofs.functions.running_sums.Given as goal

-- the sums up to each of the values up to here, and the last sum
abbrev pub invariant-loop-value : goal.invariant-loop-value
invariant-loop-value l =
    (values_of l.sums ≡ running_sums (pos 0) (values_of (take l.value-index l.values)))
    × (l.sum ≡ int_wrap w64 (total (values_of (take l.value-index l.values))))
