use Rattle.std.proofs.Common.{◌≡◌, false, take}
use Rattle.plan_frame.specs.Reshaped.{exploded_values}
use Rattle.plan_value.specs.Shown.{values_of}
use Rattle.plan_function_tables.proofs.explode.repeated.Given as goal

-- the values over the rows up to here
abbrev pub invariant-loop-row : goal.invariant-loop-row
invariant-loop-row l = values_of l.made ≡ exploded_values false (take l.row-index l.rows) (values_of l.values)
