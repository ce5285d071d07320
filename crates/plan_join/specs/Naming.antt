-- Which columns a join puts out, and under which names.
use Rattle.std.specs.Prelude.{◌≡◌, ◌<◌, All, length, Bool, true, false, not, ◌&&◌, List, [], ◌++◌, map, Option, if◌then◌else◌, slice_get, option_and_then}
use Rattle.std.specs.List.{filter as only_where, filter_map, find}
use Rattle.std.specs.Str.{bytes_eq}
use Rattle.plan_core.specs.declared.data_type.DataType.{DataType}
use Rattle.plan_core.specs.declared.error.PolarsError.{PolarsError}
use Rattle.plan_core.specs.declared.error.PolarsError.TheVariants.{Duplicate, OutOfMemory}
use Rattle.plan_core.specs.Columns.{Columns, HasDistinctNames, names_of}
use Rattle.plan_core.specs.Errors.{item_at}
use Rattle.plan_core.specs.Names.{has}
use Rattle.plan_options.specs.declared.join.JoinArgs.{JoinArgs}
use Rattle.plan_options.specs.declared.join.JoinType.{JoinType}
use Rattle.plan_options.specs.declared.join.JoinType.TheVariants.{Right, Semi, Anti}
use Rattle.plan_options.specs.Join.{coalesces, suffix_of}
use Rattle.plan_expr.specs.declared.aexpr.AExpr.{AExpr}
use Rattle.plan_expr.specs.declared.expr_ir.ExprIR.{ExprIR}
use Rattle.plan_expr.specs.Leaves.{Name}
use Rattle.plan_expr.specs.Walks.{column_name}
use Rattle.plan_join.specs.declared.origin.Side.{Side}
use Rattle.plan_join.specs.declared.origin.Side.TheVariants as sides

-- the numbers of keys are those of entries
abbrev pub LieIn : List AExpr → List ExprIR → Type 0
LieIn ex keys = All (λ (key : ExprIR). key.node.0 < length ex) keys

-- the column that a key is, if it is one
abbrev pub key_column : List AExpr → ExprIR → Option Name
key_column ex key = option_and_then column_name (slice_get ex key.node.0)

-- the columns among keys, in order
abbrev pub key_columns : List AExpr → List ExprIR → List Name
key_columns ex keys = filter_map (key_column ex) keys

-- whether the keys of the left side are those that a join drops where it puts each pair of keys out as one
abbrev pub drops_left : JoinType → Bool
drops_left Right = true
drops_left _ = false

-- whether a join puts out columns of its right side
abbrev pub has_right : JoinType → Bool
has_right Semi = false
has_right Anti = false
has_right _ = true

-- the columns whose names are none of these
abbrev pub but_for : List Name → Columns → Columns
but_for names cs = only_where (λ (c : Name × DataType). not (has names c.0)) cs

-- the left columns that a join puts out, by the columns among its left keys
abbrev pub left_rest : JoinArgs → List Name → Columns → Columns
left_rest args keys left = if coalesces args.how args.coalesce && drops_left args.how then but_for keys left else left

-- the right columns that it puts out, by the columns among its right keys
abbrev pub right_rest : JoinArgs → List Name → Columns → Columns
right_rest args keys right = if has_right args.how then (if coalesces args.how args.coalesce && not (drops_left args.how) then but_for keys right else right) else []

-- the name of a right column: its own, with the suffix where one of the left names is the same
abbrev pub right_name : (suffix : Name) → (left : List Name) → Name → Name
right_name suffix left a = if has left a then a ++ suffix else a

-- columns with others behind them, these under the names of right columns
abbrev pub with_right : (suffix : Name) → (left right : Columns) → Columns
with_right suffix left right = left ++ map (λ (c : Name × DataType). (right_name suffix (names_of left) c.0, c.1)) right

-- the columns of a join, by the columns among its keys and those of its sides
abbrev pub join_columns : JoinArgs → (left_keys right_keys : List Name) → (left right : Columns) → Columns
join_columns args left_keys right_keys left right = with_right (suffix_of args) (left_rest args left_keys left) (right_rest args right_keys right)

-- the columns that a join puts out, in order: of which side each is, and its name there
abbrev pub sources : JoinArgs → (left_keys right_keys : List Name) → (left right : Columns) → List (Side × Name)
sources args left_keys right_keys left right =
    map (λ (c : Name × DataType). (sides.Left, c.0)) (left_rest args left_keys left) ++ map (λ (c : Name × DataType). (sides.Right, c.0)) (right_rest args right_keys right)

-- the name under which a column of a side is put out
abbrev pub called : (suffix : Name) → (left : List Name) → Side → Name → Name
called suffix left sides.Left a = a
called suffix left sides.Right a = right_name suffix left a

-- whether a column of a side is put out under a name
abbrev pub is_called : (suffix : Name) → (left : List Name) → Name → Side × Name → Bool
is_called suffix left a s = bytes_eq a (called suffix left s.0 s.1)

-- the first column that is put out under a name: its side, and its name there
abbrev pub origin : JoinArgs → (left_keys right_keys : List Name) → (left right : Columns) → Name → Option (Side × Name)
origin args left_keys right_keys left right a =
    find (is_called (suffix_of args) (names_of (left_rest args left_keys left)) a) (sources args left_keys right_keys left right)

-- the columns of a side
abbrev pub side_columns : (left right : Columns) → Side → Columns
side_columns left right sides.Left = left
side_columns left right sides.Right = right

-- a refusal tells, at place 0 of no node, that a name comes twice; want of memory says nothing
abbrev pub Refuses : Columns → PolarsError → Type 0
Refuses cs OutOfMemory = Unit {0}
Refuses cs (Duplicate at) = (at ≡ item_at 0) × (HasDistinctNames cs → ⊥)
Refuses cs _ = ⊥
