use Rattle.std.proofs.Common.{◌≡◌, ◌++◌}
use Rattle.plan_core.specs.Columns.{names_of}
use Rattle.plan_file_scan.specs.FileFrames.{scan_values}
use Rattle.plan_frame.specs.Frames.{table_columns}
use Rattle.plan_table.specs.Tables.{types_of}
use Rattle.plan_value.specs.Shown.{columns_shown}
use Rattle.plan_file_tables.specs.Parts.{parts_shown}
use Rattle.plan_file_tables.proofs.scan.put_out.Given as goal

-- what is put out, and then the columns that are left, are all columns, and so are their types
abbrev pub invariant-loop-name : goal.invariant-loop-name
invariant-loop-name l =
    (columns_shown l.columns ++ table_columns (names_of l.name-iterator) (scan_values l.options (parts_shown l.parts)) ≡ table_columns (names_of l.schema) (scan_values l.options (parts_shown l.parts)))
    × (types_of l.columns ++ l.name-iterator ≡ l.schema)
