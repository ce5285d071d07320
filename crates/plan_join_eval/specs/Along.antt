-- Columns along pairs of rows.
use Rattle.std.specs.Prelude.{ℕ, Bool, true, false, not, List, [], Option, None, Some, get_or, slice_get, map, option_and_then}
use Rattle.std.specs.Option.{option_map_or}
use Rattle.plan_frame.specs.Frames.{Column, Frame, column_or}
use Rattle.plan_core.specs.Columns.{Columns, place_of}
use Rattle.plan_expr.specs.Leaves.{Name}
use Rattle.plan_frame.specs.Values.{Value, null}
use Rattle.plan_join.specs.declared.pairs.RowPair.{RowPair}
use Rattle.plan_join.specs.declared.origin.Side.TheVariants as sides
use Rattle.plan_join.specs.Joined.{side_value, value_or}

-- the row of a side in a pair, of the right one or of the left, if there is one
abbrev pub place_in : (of_right : Bool) → RowPair → Option ℕ
place_in true p = p.right
place_in false p = p.left

-- the value in the row of a side, or that in the row of the other where it is absent
abbrev pub value_along : (of_right : Bool) → (values others : List Value) → RowPair → Value
value_along of_right values others p = value_or values (value_or others null (place_in (not of_right) p)) (place_in of_right p)

-- what is told at a place of some places, if something is
abbrev pub slot : List (Option ℕ) → ℕ → Option ℕ
slot places i = get_or places i None

-- the values of the column at a place of a frame, none where there is none
abbrev pub filling : Frame → Option ℕ → List Value
filling g None = []
filling g (Some k) = option_map_or (λ (c : Column). c.values) (slice_get g.columns k) []

-- a left column along pairs: null where its row is absent, but for the values of the column that fills it
abbrev pub left_column : Columns → List (Option ℕ) → (f g : Frame) → List RowPair → Name → Column
left_column places fills f g ps a = record { name = a; values = map (value_along false (column_or f a) (filling g (option_and_then (slot fills) (place_of places a)))) ps }

-- a left column along pairs: null where its row is absent, but for the values of the right key that fills it
abbrev pub filled_column : (fill : Name → Option Name) → (f g : Frame) → List RowPair → Name → Column
filled_column fill f g ps a = record { name = a; values = map (side_value fill f g (sides.Left, a)) ps }

-- a right column along pairs, under the name that it gets: null where its row is absent
abbrev pub right_column : (call : Name → Name) → Frame → List RowPair → Name → Column
right_column call g ps a = record { name = call a; values = map (value_along true (column_or g a) []) ps }
