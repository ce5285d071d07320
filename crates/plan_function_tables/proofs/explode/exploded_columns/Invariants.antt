use Rattle.std.proofs.Common.{◌≡◌, ◌++◌}
use Rattle.plan_frame.specs.Reshaped.{exploded_columns}
use Rattle.plan_table.specs.Tables.{types_of}
use Rattle.plan_value.specs.Shown.{columns_shown}
use Rattle.plan_function_tables.specs.Explode.{columns_over}
use Rattle.plan_function_tables.proofs.explode.exploded_columns.Given as goal

-- what is made, and then what is left over the rows, are all columns over them, and so are their types
abbrev pub invariant-loop-column : goal.invariant-loop-column
invariant-loop-column l =
    (columns_shown l.made ++ columns_over l.apart l.rows (columns_shown l.column-iterator) ≡ columns_over l.apart l.rows (columns_shown l.columns))
    × (types_of l.made ++ exploded_columns l.apart (types_of l.column-iterator) ≡ exploded_columns l.apart (types_of l.columns))
