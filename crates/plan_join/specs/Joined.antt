-- The frame of a join: its columns along a list of pairs of rows.
use Rattle.std.specs.Prelude.{ℕ, List, map, length, Option, None, Some}
use Rattle.plan_options.specs.declared.join.JoinArgs.{JoinArgs}
use Rattle.plan_options.specs.Join.{suffix_of}
use Rattle.plan_expr.specs.Leaves.{Name}
use Rattle.plan_join.specs.declared.origin.Side.{Side}
use Rattle.plan_join.specs.declared.origin.Side.TheVariants as sides
use Rattle.plan_join.specs.Naming.{called}
use Rattle.plan_frame.specs.Values.{Value, null}
use Rattle.plan_frame.specs.Frames.{Frame, Column, column_names, column_or, row}
use Rattle.plan_join.specs.declared.pairs.RowPair.{RowPair}
use Rattle.plan_join.specs.Sides.{filler, left_out, name_sources}

-- the value in a row, or another where the row is absent
abbrev pub value_or : List Value → Value → Option ℕ → Value
value_or vs v None = v
value_or vs v (Some i) = row vs i

-- the value of the right key that fills a left column, null where none does
abbrev pub filled_by : Option Name → Frame → Option ℕ → Value
filled_by None g j = null
filled_by (Some b) g j = value_or (column_or g b) null j

-- the value that a column of a side has in a pair: null where its row is absent, but for a left key that a right one fills
abbrev pub side_value : (fill : Name → Option Name) → (f g : Frame) → Side × Name → RowPair → Value
side_value fill f g (sides.Left, a) p = value_or (column_or f a) (filled_by (fill a) g p.right) p.left
side_value fill f g (sides.Right, a) p = value_or (column_or g a) null p.right

-- a column that is put out: the name that it gets, and its values along the pairs
abbrev pub side_column : (fill : Name → Option Name) → (call : Side × Name → Name) → List RowPair → (f g : Frame) → Side × Name → Column
side_column fill call ps f g s = record { name = call s; values = map (side_value fill f g s) ps }

-- the name under which a column is put out, by the left columns that are
abbrev pub call : JoinArgs → List Name → Side × Name → Name
call args left s = called (suffix_of args) left s.0 s.1

-- what a join makes of two frames along pairs of their rows, by the columns among its keys
abbrev pub joined : JoinArgs → (left_keys right_keys : List Name) → List RowPair → (f g : Frame) → Frame
joined args left_keys right_keys ps f g =
    let left = column_names f.columns in
    record {
      height = length ps;
      columns = map (side_column (filler args left_keys right_keys) (call args (left_out args left_keys left)) ps f g) (name_sources args left_keys right_keys left (column_names g.columns));
    }
