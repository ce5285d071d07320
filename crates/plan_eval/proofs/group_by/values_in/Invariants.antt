use Rattle.std.proofs.Common.{◌≡◌, map, take}
use Rattle.plan_frame.specs.Meaning.{value_at}
use Rattle.plan_value.specs.Cells.{cell_of}
use Rattle.plan_value.specs.Shown.{values_of}
use Rattle.plan_eval.proofs.group_by.values_in.Given as goal

-- the values in the rows up to here
abbrev pub invariant-loop-row : goal.invariant-loop-row
invariant-loop-row l = values_of l.own ≡ map (value_at (cell_of l.values)) (take l.row-index l.rows)
