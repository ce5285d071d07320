-- Which columns a join puts out, name by name, and which of its right columns it puts out under a name.
use Rattle.std.specs.Prelude.{Bool, not, ◌&&◌, List, map, Option}
use Rattle.std.specs.List.{find}
use Rattle.plan_core.specs.declared.data_type.DataType.{DataType}
use Rattle.plan_core.specs.Columns.{Columns, names_of}
use Rattle.plan_core.specs.Names.{has}
use Rattle.plan_options.specs.declared.join.JoinArgs.{JoinArgs}
use Rattle.plan_options.specs.Join.{coalesces, suffix_of}
use Rattle.plan_expr.specs.Leaves.{Name}
use Rattle.plan_join.specs.declared.origin.Side.{Side}
use Rattle.plan_join.specs.declared.origin.Side.TheVariants as sides
use Rattle.plan_join.specs.Naming.{drops_left, has_right, is_called, left_rest, right_rest}

-- whether a join puts out a left column of this name, by the columns among its left keys
abbrev pub puts_out_left : JoinArgs → List Name → Name → Bool
puts_out_left args keys a = not ((coalesces args.how args.coalesce && drops_left args.how) && has keys a)

-- whether it puts out a right column of this name, by the columns among its right keys
abbrev pub puts_out_right : JoinArgs → List Name → Name → Bool
puts_out_right args keys a = has_right args.how && not ((coalesces args.how args.coalesce && not (drops_left args.how)) && has keys a)

-- the first right column that is put out under a name
abbrev pub right_origin : JoinArgs → (left_keys right_keys : List Name) → (left right : Columns) → Name → Option (Side × Name)
right_origin args left_keys right_keys left right a =
    find (is_called (suffix_of args) (names_of (left_rest args left_keys left)) a) (map (λ (c : Name × DataType). (sides.Right, c.0)) (right_rest args right_keys right))
