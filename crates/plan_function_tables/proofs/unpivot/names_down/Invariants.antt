use Rattle.std.proofs.Common.{◌≡◌, take}
use Rattle.plan_frame.specs.Reshaped.{names_down}
use Rattle.plan_value.specs.Shown.{frame_of, values_of}
use Rattle.plan_function_tables.proofs.unpivot.names_down.Given as goal

-- the names up to here, each once for each row
abbrev pub invariant-loop-name : goal.invariant-loop-name
invariant-loop-name l = values_of l.values ≡ names_down (take l.name-index l.names) (frame_of l.table)
