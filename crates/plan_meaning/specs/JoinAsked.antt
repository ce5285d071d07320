-- The names that a join asks of its sides.
use Rattle.std.specs.Prelude.{Bool, true, false, List, [], ◌∷◌, ◌++◌, Option, Some, if◌then◌else◌}
use Rattle.std.specs.List.{flat_map}
use Rattle.plan_core.specs.Columns.{Columns, names_of}
use Rattle.plan_core.specs.Names.{has, with_names}
use Rattle.plan_expr.specs.Exprs.{Named}
use Rattle.plan_expr.specs.Leaves.{Name}
use Rattle.plan_frame.specs.ExprLists.{all_leaves}
use Rattle.plan_join.specs.declared.origin.Side.{Side}
use Rattle.plan_join.specs.declared.origin.Side.TheVariants as sides
use Rattle.plan_join.specs.Naming.{has_right, origin}
use Rattle.plan_join.specs.Told.{Told, column_keys}
use Rattle.plan_meaning.specs.JoinChecks.{conditions}

-- the names that a join of which these are asked needs of its own columns: what its condition reads, and then these
abbrev pub needed_of : Told → List Name → List Name
needed_of told wanted = all_leaves (conditions told.options) ++ wanted

-- the column that a join puts out, if it is one of this side
abbrev pub of_side : Side → Option (Side × Name) → List Name
of_side sides.Left (Some (sides.Left, b)) = b ∷ []
of_side sides.Right (Some (sides.Right, b)) = b ∷ []
of_side side o = []

-- what a name asks of a side, by the columns that names stand for: itself where the side has it, and the column that it stands for where that is of this side
abbrev pub side_names : Side → (by : Name → Option (Side × Name)) → Columns → Name → List Name
side_names side by s a = if has (names_of s) a then a ∷ of_side side (by a) else of_side side (by a)

-- what names ask of a side: what its keys read, and then name by name what each asks, each once
abbrev pub side_asked : Side → (keys : List Named) → (by : Name → Option (Side × Name)) → Columns → List Name → List Name
side_asked side keys by s needed = with_names [] (all_leaves keys ++ flat_map (side_names side by s) needed)

-- the column of a side that a join of these sides puts out under a name
abbrev pub origin_of : (left_on right_on : List Named) → Told → (left right : Columns) → Name → Option (Side × Name)
origin_of left_on right_on told s t = origin told.args (column_keys left_on) (column_keys right_on) s t

-- what a join of which names are asked asks of its left side
abbrev pub left_asked : (left_on right_on : List Named) → Told → List Name → (left right : Columns) → List Name
left_asked left_on right_on told wanted s t = side_asked sides.Left left_on (origin_of left_on right_on told s t) s (needed_of told wanted)

-- what it asks of its right side
abbrev pub right_asked : (left_on right_on : List Named) → Told → List Name → (left right : Columns) → List Name
right_asked left_on right_on told wanted s t = side_asked sides.Right right_on (origin_of left_on right_on told s t) t (needed_of told wanted)

-- what a join asks of its right side where nothing is asked of it: what the keys read where it puts out no columns of that side, else nothing
abbrev pub unasked_right : (shows : Bool) → (right_on : List Named) → List Name
unasked_right true right_on = []
unasked_right false right_on = with_names [] (all_leaves right_on)

-- what a join asks of its left side; asked nothing, nothing
abbrev pub left_names : List Name → (left_on right_on : List Named) → Told → (left right : Columns) → List Name
left_names [] left_on right_on told s t = []
left_names (a ∷ asked) left_on right_on told s t = left_asked left_on right_on told (a ∷ asked) s t

-- what a join asks of its right side
abbrev pub right_names : List Name → (left_on right_on : List Named) → Told → (left right : Columns) → List Name
right_names [] left_on right_on told s t = unasked_right (has_right told.args.how) right_on
right_names (a ∷ asked) left_on right_on told s t = right_asked left_on right_on told (a ∷ asked) s t
