use Rattle.std.proofs.Common.{◌≡◌, ◌++◌, map}
use Rattle.std.specs.List.{range_with_len}
use Rattle.plan_frame.specs.Meaning.{value_at}
use Rattle.plan_value.specs.Cells.{cell_of}
use Rattle.plan_value.specs.Shown.{values_of}
use Rattle.plan_join_eval.proofs.equal.append_values.Given as goal

-- the values in the rows up to here are appended
abbrev pub invariant-loop-row : goal.invariant-loop-row
invariant-loop-row l = values_of l.column ≡ values_of l.initial.column ++ map (value_at (cell_of l.values)) (range_with_len 0 l.row)
