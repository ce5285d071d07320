use Rattle.std.proofs.Common.{◌≡◌, map, take}
use Rattle.plan_core.specs.Columns.{with_types}
use Rattle.plan_expr.specs.Exprs.{all_named_at}
use Rattle.plan_frame.specs.Frames.{with_columns}
use Rattle.plan_frame.specs.Made.{made_columns}
use Rattle.plan_table.specs.Tables.{types_of}
use Rattle.plan_function_tables.specs.Given.{stored_column}
use Rattle.plan_value.specs.Shown.{columns_shown, frame_of}
use Rattle.plan_eval.proofs.made.made.Given as goal

-- the columns with those that the expressions up to here make, and so their types
abbrev pub invariant-loop-expr : goal.invariant-loop-expr
invariant-loop-expr l =
    (columns_shown l.columns ≡ with_columns (columns_shown l.fn.base) (made_columns l.height (frame_of l.table) (all_named_at l.ex (take l.expr-index l.exprs))))
    × (types_of l.columns ≡ with_types (types_of l.fn.base) (map (stored_column l.schema) (take l.expr-index l.exprs)))
