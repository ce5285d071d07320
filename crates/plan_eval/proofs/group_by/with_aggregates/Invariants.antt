use Rattle.std.proofs.Common.{◌≡◌, drop, map}
use Rattle.plan_core.specs.Columns.{with_types}
use Rattle.plan_expr.specs.Exprs.{all_named_at}
use Rattle.plan_frame.specs.Frames.{with_columns}
use Rattle.plan_table.specs.Tables.{types_of}
use Rattle.plan_value.specs.Shown.{columns_shown, frame_of}
use Rattle.plan_function_tables.specs.Given.{stored_column}
use Rattle.plan_eval.specs.Groups.{group_column}
use Rattle.plan_eval.proofs.group_by.with_aggregates.Given as goal

-- what is there, with the columns of the aggregates that are left, are all columns, and so are their types
abbrev pub invariant-loop-agg : goal.invariant-loop-agg
invariant-loop-agg l =
    (with_columns (columns_shown l.columns) (map (group_column l.parts (frame_of l.table)) (all_named_at l.ex (drop l.agg-index l.aggs))) ≡ with_columns (columns_shown l.fn.base) (map (group_column l.parts (frame_of l.table)) (all_named_at l.ex l.aggs)))
    × (with_types (types_of l.columns) (map (stored_column l.schema) (drop l.agg-index l.aggs)) ≡ with_types (types_of l.fn.base) (map (stored_column l.schema) l.aggs))
