use Rattle.std.proofs.Common.{◌≡◌, fold}
use Rattle.std.specs.List.{range_with_len}
use Rattle.plan_frame.specs.Frames.{picked_columns, with_new_column}
use Rattle.plan_frame.specs.Beside.{with_new}
use Rattle.plan_table.specs.Tables.{types_of}
use Rattle.plan_value.specs.Shown.{columns_shown}
use Rattle.plan_eval.proofs.hconcat.append_rows.Given as goal

-- what is there, with what is left, is what all give, and so are the types
abbrev pub invariant-loop-column : goal.invariant-loop-column
invariant-loop-column l = record {
  shown : fold with_new_column (columns_shown l.columns) (picked_columns (range_with_len 0 l.height) (columns_shown l.column-iterator)) ≡ fold with_new_column (columns_shown l.initial.columns) (picked_columns (range_with_len 0 l.height) (columns_shown l.fn.more));
  types : fold with_new (types_of l.columns) (types_of l.column-iterator) ≡ fold with_new (types_of l.initial.columns) (types_of l.fn.more);
}
