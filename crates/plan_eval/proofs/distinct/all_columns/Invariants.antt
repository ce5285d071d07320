use Rattle.std.proofs.Common.{◌≡◌, ◌++◌}
use Rattle.plan_frame.specs.Frames.{column_names}
use Rattle.plan_value.specs.Cells.{cells_of}
use Rattle.plan_value.specs.Shown.{columns_shown, frame_of}
use Rattle.plan_eval.specs.Distinct.{columns_named}
use Rattle.plan_eval.proofs.distinct.all_columns.Given as goal

-- the columns up to here, and then those that are left, are all
abbrev pub invariant-loop-own : goal.invariant-loop-own
invariant-loop-own l =
    cells_of l.columns ++ columns_named (frame_of l.table) (column_names (columns_shown l.own-iterator)) ≡ columns_named (frame_of l.table) (column_names (columns_shown l.table.columns))
