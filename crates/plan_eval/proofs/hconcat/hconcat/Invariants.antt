use Rattle.std.proofs.Common.{◌≡◌, [], fold, map}
use Rattle.plan_frame.specs.Frames.{levelled, with_new_column}
use Rattle.plan_frame.specs.Beside.{in_a_row, side_by_side, with_new}
use Rattle.plan_table.specs.Tables.{types_of}
use Rattle.plan_value.specs.Shown.{columns_shown, frame_of, schema_of}
use Rattle.plan_eval.proofs.hconcat.hconcat.Given as goal

-- what is there, with the columns of the tables that are left, is what all give, and so are the types
abbrev pub invariant-loop-table : goal.invariant-loop-table
invariant-loop-table l = record {
  shown : fold with_new_column (columns_shown l.columns) (levelled l.height (map frame_of l.table-iterator.rest.items)) ≡ fold with_new_column [] (levelled l.height (map frame_of l.fn.tables.items));
  types : fold with_new (types_of l.columns) (in_a_row (map schema_of l.table-iterator.rest.items)) ≡ side_by_side (map schema_of l.fn.tables.items);
}
