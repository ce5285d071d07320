use Rattle.std.proofs.Common.{◌≡◌, take}
use Rattle.plan_value.specs.Cells.{cells_of}
use Rattle.plan_value.specs.Shown.{frame_of}
use Rattle.plan_eval.specs.Distinct.{columns_named}
use Rattle.plan_eval.proofs.distinct.some_columns.Given as goal

-- the columns of the names up to here
abbrev pub invariant-loop-name : goal.invariant-loop-name
invariant-loop-name l = cells_of l.columns ≡ columns_named (frame_of l.table) (take l.name-index l.names)
