use Rattle.std.proofs.Common.{◌≡◌}
use Rattle.plan_core.specs.Columns.{with_types}
use Rattle.plan_frame.specs.Frames.{with_columns}
use Rattle.plan_table.specs.Tables.{types_of}
use Rattle.plan_value.specs.Shown.{columns_shown}
use Rattle.plan_eval.proofs.hstack.with_all.Given as goal

-- what is put, and then the columns that are left, are all columns, and so are their types
abbrev pub invariant-loop-column : goal.invariant-loop-column
invariant-loop-column l = record {
  height : l.table.height ≡ l.fn.table.height;
  shown : with_columns (columns_shown l.table.columns) (columns_shown l.column-iterator.rest.items) ≡ with_columns (columns_shown l.fn.table.columns) (columns_shown l.fn.made.items);
  types : with_types (types_of l.table.columns) (types_of l.column-iterator.rest.items) ≡ with_types (types_of l.fn.table.columns) (types_of l.fn.made.items);
}
