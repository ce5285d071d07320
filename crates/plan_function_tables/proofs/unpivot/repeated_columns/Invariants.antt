use Rattle.std.proofs.Common.{◌≡◌, ◌++◌, drop}
use Rattle.plan_frame.specs.Frames.{table_columns}
use Rattle.plan_frame.specs.Reshaped.{columns_at, repeated}
use Rattle.plan_table.specs.Tables.{types_of}
use Rattle.plan_value.specs.Shown.{columns_shown, frame_of, schema_of}
use Rattle.plan_function_tables.proofs.unpivot.repeated_columns.Given as goal

-- what is made, and then what is left, are all columns, and so are their types
abbrev pub invariant-loop-name : goal.invariant-loop-name
invariant-loop-name l =
    (columns_shown l.made ++ table_columns (drop l.name-index l.index) (repeated l.names (frame_of l.table)) ≡ table_columns l.index (repeated l.names (frame_of l.table)))
    × (types_of l.made ++ columns_at (schema_of l.table) (drop l.name-index l.index) ≡ columns_at (schema_of l.table) l.index)
