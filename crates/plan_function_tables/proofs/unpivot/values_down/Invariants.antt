use Rattle.std.proofs.Common.{◌≡◌, take}
use Rattle.plan_frame.specs.Reshaped.{values_down}
use Rattle.plan_value.specs.Shown.{frame_of, values_of}
use Rattle.plan_function_tables.proofs.unpivot.values_down.Given as goal

-- the values of the columns up to here
abbrev pub invariant-loop-name : goal.invariant-loop-name
invariant-loop-name l = values_of l.values ≡ values_down (take l.name-index l.names) (frame_of l.table)
