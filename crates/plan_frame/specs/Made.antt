-- What expressions make of a frame, and the columns that this has.
use Rattle.std.specs.Prelude.{ℕ, List, [], map, unwrap_or, if◌then◌else◌}
use Rattle.plan_core.specs.declared.data_type.DataType.{DataType}
use Rattle.plan_core.specs.Columns.{Columns, with_types}
use Rattle.plan_expr.specs.Exprs.{Named}
use Rattle.plan_expr.specs.Leaves.{Name}
use Rattle.plan_expr.specs.Naming.{name_of}
use Rattle.plan_frame.specs.Exprs.{expr_type}
use Rattle.plan_core.specs.declared.data_type.DataType.TheVariants as types
use Rattle.plan_frame.specs.Frames.{Frame, Column, rows_at, with_columns}
use Rattle.plan_frame.specs.Meaning.{val, filled}
use Rattle.plan_frame.specs.Grouping.{row_exprs}
use Rattle.plan_frame.specs.ExprLists.{all_scalar}

-- the column that an expression makes over some columns: its output name, with its type
abbrev pub made_column : Columns → Named → Name × DataType
made_column s e = (name_of e.name, unwrap_or (expr_type e.expr s) types.Int64)

-- columns, and those that expressions make over some: each in the place of the one of its name, or last
abbrev pub made_schema : Columns → List Named → Columns → Columns
made_schema base es s = with_types base (map (made_column s) es)

-- the columns that expressions make over a frame, each of so many rows
abbrev pub made_columns : ℕ → Frame → List Named → List Column
made_columns h g es = map (λ (e : Named). record { name = name_of e.name; values = filled h (val e.expr g) }) es

-- columns of a height, and those that expressions make over a frame: each in the place of the one of its name, or last
abbrev pub made : ℕ → List Column → List Named → Frame → Frame
made h base es g = record { height = h; columns = with_columns base (made_columns h g es) }

-- what a selection makes of a frame: one row where all its expressions are scalar, else as many as the frame has
abbrev pub selected : List Named → Frame → Frame
selected es g = made (if all_scalar es then 1 else g.height) [] es g

-- of some rows of a frame, one of each group: the keys, and what the aggregates are over the rows of the group
abbrev pub grouped : (keys aggs : List Named) → List ℕ → Frame → Frame
grouped keys aggs rows g = rows_at rows (made g.height [] (row_exprs keys aggs) g)
