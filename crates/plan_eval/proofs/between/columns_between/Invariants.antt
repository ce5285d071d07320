use Rattle.std.proofs.Common.{◌≡◌, ◌++◌, ◌-◌}
use Rattle.std.specs.List.{range_with_len}
use Rattle.plan_frame.specs.Frames.{picked_columns}
use Rattle.plan_table.specs.Tables.{types_of}
use Rattle.plan_value.specs.Shown.{columns_shown}
use Rattle.plan_eval.proofs.between.columns_between.Given as goal

-- what is cut, and then the rows of the columns that are left, are those of all columns, and so are their types
abbrev pub invariant-loop-column : goal.invariant-loop-column
invariant-loop-column l =
    (columns_shown l.columns ++ picked_columns (range_with_len l.first (l.end - l.first)) (columns_shown l.column-iterator) ≡ picked_columns (range_with_len l.first (l.end - l.first)) (columns_shown l.table.columns))
    × (types_of l.columns ++ types_of l.column-iterator ≡ types_of l.table.columns)
