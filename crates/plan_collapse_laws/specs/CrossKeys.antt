-- Which minterms above a cross join are keys of a join in its place, and which keys.
use Rattle.std.specs.Prelude.{ℕ, Bool, true, false, not, ◌&&◌, List, [], Option, Some, None, is_some, if◌then◌else◌, option_and_then}
use Rattle.std.specs.Option.{option_map_or}
use Rattle.std.specs.List.{flat_map, list_all}
use Rattle.plan_core.specs.Columns.{Columns}
use Rattle.plan_core.specs.declared.data_type.DataType.TheVariants as types
use Rattle.plan_options.specs.declared.join.InequalityOperator.{InequalityOperator}
use Rattle.plan_options.specs.declared.join.InequalityOperator.TheVariants as inequality
use Rattle.plan_options.specs.declared.join.JoinArgs.{JoinArgs}
use Rattle.plan_tree.specs.Rose.{rose, no_roses, more}
use Rattle.plan_expr.specs.declared.operator.Operator.{Operator}
use Rattle.plan_expr.specs.declared.operator.Operator.TheVariants.{Eq, Lt, LtEq, Gt, GtEq}
use Rattle.plan_expr.specs.Exprs.{binary, Expr, Named}
use Rattle.plan_expr.specs.Leaves.{Name, leaves}
use Rattle.plan_frame.specs.Exprs.{expr_type, is_type}
use Rattle.plan_join.specs.declared.origin.Side.{Side}
use Rattle.plan_join.specs.declared.origin.Side.TheVariants as sides
use Rattle.plan_join.specs.Naming.{origin}
use Rattle.plan_meaning.specs.Checks.{is_empty}
use Rattle.plan_meaning.specs.Minterms.{minterms}
use Rattle.plan_pruned.specs.JoinPruned.{renamed_expr}
use Rattle.plan_frame.specs.Values.{is_true}
use Rattle.plan_frame.specs.Frames.{Frame}
use Rattle.plan_frame.specs.Meaning.{operated, val, value_at}
use Rattle.plan_join.specs.Matching.{key_matches}

-- the minterms of a run of filters, from the topmost down
abbrev pub all_minterms : List Named → List Expr
all_minterms run = flat_map (λ (e : Named). minterms e.expr) run

-- the operator of a comparison whose operands change places; another stays
abbrev pub turned_round : Operator → Operator
turned_round Lt = Gt
turned_round LtEq = GtEq
turned_round Gt = Lt
turned_round GtEq = LtEq
turned_round op = op

-- whether an operator is that of equality
abbrev pub is_equality : Operator → Bool
is_equality Eq = true
is_equality op = false

-- the inequality that an operator is, if it is one
abbrev pub inequality_of : Operator → Option InequalityOperator
inequality_of Lt = Some inequality.Lt
inequality_of LtEq = Some inequality.LtEq
inequality_of Gt = Some inequality.Gt
inequality_of GtEq = Some inequality.GtEq
inequality_of op = None

-- whether two sides are one
abbrev pub is_side : Side → Side → Bool
is_side sides.Left sides.Left = true
is_side sides.Right sides.Right = true
is_side x y = false

-- whether a column of a cross join is from this side
abbrev pub is_from : Side → Option (Side × Name) → Bool
is_from side None = false
is_from side (Some x) = is_side side x.0

-- a cross join: what it is told, and the columns of its sides
pub record Crossed : Type 0 where
  pub args : JoinArgs
  pub left : Columns
  pub right : Columns

-- the column of a side that a name of a cross join stands for, if it is one
abbrev pub stands_for : Crossed → Name → Option (Side × Name)
stands_for j a = origin j.args [] [] j.left j.right a

-- whether an expression has leaves, and all of them are from one side
abbrev pub all_from : Crossed → Side → Expr → Bool
all_from j side e = not (is_empty (leaves e)) && list_all (λ (a : Name). is_from side (stands_for j a)) (leaves e)

-- the name that a column of a cross join has on its own side
abbrev pub own_name : Crossed → Name → Name
own_name j a = option_map_or (λ (x : Side × Name). x.1) (stands_for j a) a

-- an expression with the own names of its side
abbrev pub own_expr : Crossed → Expr → Expr
own_expr j e = renamed_expr (own_name j) e

-- a pair of keys, one of each side, and the operator that compares them
pub record KeyPair : Type 0 where
  pub op : Operator
  pub left_key : Expr
  pub right_key : Expr

-- the keys of a comparison, the left side's first, where each operand is from one side alone; where the right side's stood first the operator is turned round
abbrev pub paired : Crossed → Operator → Expr → Expr → Option KeyPair
paired j op l r =
    if all_from j sides.Left l && all_from j sides.Right r then Some (record { op = op; left_key = l; right_key = own_expr j r })
    else (if all_from j sides.Right l && all_from j sides.Left r then Some (record { op = turned_round op; left_key = r; right_key = own_expr j l }) else None)

-- the keys of an eligible equality
abbrev pub equality_keys : Crossed → Expr → Option KeyPair
equality_keys j (rose n (binary op) (more l (more r no_roses))) = if is_equality op then paired j op l r else None
equality_keys j e = None

-- a pair of keys, if its left one is a whole number
abbrev pub whole_only : Columns → KeyPair → Option KeyPair
whole_only s k = if is_type (expr_type k.left_key s) types.Int64 then Some k else None

-- the keys of an eligible inequality, which compares whole numbers
abbrev pub inequality_keys : Crossed → Expr → Option KeyPair
inequality_keys j (rose n (binary op) (more l (more r no_roses))) = if is_some (inequality_of op) then option_and_then (whole_only j.left) (paired j op l r) else None
inequality_keys j e = None

-- whether the keys of an equality match in two rows, null with nothing
abbrev pub equal_at : KeyPair → Frame → Frame → ℕ → ℕ → Bool
equal_at k f g i j = key_matches false (value_at (val k.left_key f) i) (value_at (val k.right_key g) j)

-- whether the keys of an inequality meet it in two rows
abbrev pub meets_at : KeyPair → Frame → Frame → ℕ → ℕ → Bool
meets_at k f g i j = is_true (operated k.op (value_at (val k.left_key f) i) (value_at (val k.right_key g) j))
