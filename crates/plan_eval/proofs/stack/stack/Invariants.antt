use Rattle.std.proofs.Common.{◌≡◌, ◌++◌}
use Rattle.plan_core.specs.Columns.{names_of}
use Rattle.plan_frame.specs.Frames.{stacked, table_columns}
use Rattle.plan_table.specs.Tables.{types_of}
use Rattle.plan_value.specs.Shown.{columns_shown}
use Rattle.plan_eval.specs.Stacks.{shown_tables}
use Rattle.plan_eval.proofs.stack.stack.Given as goal

-- what is stacked, and then the columns that are left, are all columns, and so are their types
abbrev pub invariant-loop-name : goal.invariant-loop-name
invariant-loop-name l =
    (columns_shown l.columns ++ table_columns (names_of l.name-iterator) (stacked (shown_tables l.tables)) ≡ table_columns (names_of l.schema) (stacked (shown_tables l.tables)))
    × (types_of l.columns ++ l.name-iterator ≡ l.schema)
