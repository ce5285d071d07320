use Rattle.std.proofs.Common.{◌≡◌, take}
use Rattle.plan_frame.specs.Frames.{picked}
use Rattle.plan_value.specs.Shown.{values_of}
use Rattle.plan_value.proofs.rows.picked.Given as goal

-- the values in the rows up to here
abbrev pub invariant-loop-row : goal.invariant-loop-row
invariant-loop-row l = values_of l.picked ≡ picked (take l.row-index l.rows) (values_of l.values)
