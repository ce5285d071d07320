use Rattle.std.proofs.Common.{◌≡◌, ◌≤◌, ◌<◌, ◌-◌}
use Rattle.std.specs.List.{range_with_len}
use Rattle.plan_frame.specs.Frames.{picked}
use Rattle.plan_value.specs.Shown.{values_of}
use Rattle.plan_eval.proofs.between.values_between.Given as goal

-- the values from the first row up to here
abbrev pub invariant-loop-row : goal.invariant-loop-row
invariant-loop-row l = (values_of l.own ≡ picked (range_with_len l.first (l.row - l.first)) (values_of l.values)) × (l.first ≤ l.row) × (l.end < l.first → l.row ≡ l.first)
