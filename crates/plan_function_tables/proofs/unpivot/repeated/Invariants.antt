use Rattle.std.proofs.Common.{◌≡◌, take}
use Rattle.plan_frame.specs.Reshaped.{repeated}
use Rattle.plan_value.specs.Shown.{frame_of, values_of}
use Rattle.plan_function_tables.proofs.unpivot.repeated.Given as goal

-- the values of the column, once for each of the columns up to here
abbrev pub invariant-loop : goal.invariant-loop
invariant-loop l = values_of l.values ≡ repeated (take l.index l.names) (frame_of l.table) l.name
