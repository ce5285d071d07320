use Rattle.std.proofs.Common.{◌≡◌}
use Rattle.plan_frame.specs.Reshaped.{row_numbers}
use Rattle.plan_value.specs.Shown.{values_of}
use Rattle.plan_file_tables.proofs.numbers.row_numbers.Given as goal

-- the numbers up to here
abbrev pub invariant-loop-row : goal.invariant-loop-row
invariant-loop-row l = values_of l.numbers ≡ row_numbers l.first l.row
