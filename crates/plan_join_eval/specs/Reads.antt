-- The columns that a condition reads of a join.
use Rattle.std.specs.Prelude.{ℕ, Bool, true, false, List, [], length, map}
use Rattle.std.specs.List.{range_with_len}
use Rattle.plan_core.specs.declared.data_type.DataType.{DataType}
use Rattle.plan_core.specs.Names.{has}
use Rattle.plan_expr.specs.Exprs.{Expr}
use Rattle.plan_expr.specs.Leaves.{Name}
use Rattle.plan_frame.specs.Frames.{Column, Frame, column_or}
use Rattle.plan_frame.specs.Meaning.{val, value_at}
use Rattle.plan_frame.specs.Values.{is_true}
use Rattle.plan_join.specs.declared.pairs.RowPair.{RowPair}
use Rattle.plan_join.specs.Pairs.{both}
use Rattle.plan_value.specs.Shown.{values_of}
use Rattle.plan_join_eval.specs.Along.{value_along}
use Rattle.plan_join_eval.specs.declared.reads.Read.{Read}

-- a column has one of these names
abbrev pub is_read : List Name → Column → Bool
is_read names c = has names c.name

-- so has a name with its type
abbrev pub is_named : List Name → Name × DataType → Bool
is_named names c = has names c.0

-- a left column along pairs, null where its row is absent
abbrev pub left_along : Frame → List RowPair → Name → Column
left_along f ps a = record { name = a; values = map (value_along false (column_or f a) []) ps }

-- a column that is read, along pairs
abbrev pub read_column : List RowPair → Read → Column
read_column ps r = record { name = r.name; values = map (value_along r.of_right (values_of r.values.now) []) ps }

-- its name and type
abbrev pub read_type : Read → Name × DataType
read_type r = (r.name, r.dtype)

-- a row of the side that is gone through, the right one or the left, with one of the other
abbrev pub beside : (by_right : Bool) → ℕ → ℕ → RowPair
beside true row other = both other row
beside false row other = both row other

-- such a row with each of so many of the other side
abbrev pub all_beside : (by_right : Bool) → (row others : ℕ) → List RowPair
all_beside by_right row others = map (beside by_right row) (range_with_len 0 others)

-- the frame of the columns that are read, along pairs
abbrev pub read_frame : List RowPair → List Read → Frame
read_frame ps reads = record { height = length ps; columns = map (read_column ps) reads }

-- whether a condition is true in the row of a pair, over the columns that it reads along the pairs of one row with each of so many
abbrev pub is_beside_true : (by_right : Bool) → Expr → List Read → (row others : ℕ) → ℕ → Bool
is_beside_true by_right e reads row others k = is_true (value_at (val e (read_frame (all_beside by_right row others) reads)) k)
