-- Which rows of two frames match in a join, and the frames that it may give.
use Rattle.std.specs.Prelude.{◌≡◌, Bool, true, not, ◌&&◌, ◌||◌, List, [], ◌∷◌, Option, None, Some}
use Rattle.plan_options.specs.declared.join.InequalityOperator.{InequalityOperator}
use Rattle.plan_options.specs.declared.join.InequalityOperator.TheVariants as inequality
use Rattle.plan_expr.specs.declared.operator.Operator.{Operator}
use Rattle.plan_expr.specs.declared.operator.Operator.TheVariants as operator
use Rattle.plan_expr.specs.Exprs.{Named}
use Rattle.plan_join.specs.Told.{KindOptions, inequalities, condition, Told, column_keys, operators}
use Rattle.plan_frame.specs.Values.{Value, is_null, is_true, same_value}
use Rattle.plan_frame.specs.Frames.{Frame}
use Rattle.plan_frame.specs.Meaning.{Cell, operated, val, value_at}
use Rattle.plan_frame.specs.Orders.{key_cells}
use Rattle.plan_join.specs.declared.pairs.RowPair.{RowPair}
use Rattle.plan_join.specs.Pairs.{Test, both}
use Rattle.plan_join.specs.Orders.{ArePicked}
use Rattle.plan_join.specs.Joined.{joined}

-- whether two values of keys are equal; null is equal to null where that is told
abbrev pub key_matches : (nulls : Bool) → Value → Value → Bool
key_matches nulls v w = same_value v w && (nulls || not (is_null v))

-- two rows match where each pair of keys is equal
abbrev pub keys_match : (nulls : Bool) → (left right : List Cell) → Test
keys_match nulls (c ∷ cs) (d ∷ ds) i j = key_matches nulls (value_at c i) (value_at d j) && keys_match nulls cs ds i j
keys_match nulls _ _ i j = true

-- the operator that an inequality is
abbrev pub operator_of : InequalityOperator → Operator
operator_of inequality.Lt = operator.Lt
operator_of inequality.LtEq = operator.LtEq
operator_of inequality.Gt = operator.Gt
operator_of inequality.GtEq = operator.GtEq

-- two rows match where each pair of keys meets its inequality, which null doesn't
abbrev pub keys_meet : List InequalityOperator → (left right : List Cell) → Test
keys_meet (o ∷ os) (c ∷ cs) (d ∷ ds) i j = is_true (operated (operator_of o) (value_at c i) (value_at d j)) && keys_meet os cs ds i j
keys_meet _ _ _ i j = true

-- two rows match where a condition is true of the one row that a join makes of them
abbrev pub condition_holds : Told → Named → (f g : Frame) → Test
condition_holds told e f g i j = is_true (value_at (val e.expr (joined told.args [] [] (both i j ∷ []) f g)) 0)

-- which rows of two frames match
abbrev pub matches_by : Told → (left_on right_on : List Named) → (f g : Frame) → Option KindOptions → Test
matches_by told left_on right_on f g None = keys_match told.args.join_nulls (key_cells left_on f) (key_cells right_on g)
matches_by told left_on right_on f g (Some (inequalities o)) = keys_meet (operators o) (key_cells left_on f) (key_cells right_on g)
matches_by told left_on right_on f g (Some (condition e)) = condition_holds told e f g

-- which rows of two frames match in a join
abbrev pub join_test : Told → (left_on right_on : List Named) → (f g : Frame) → Test
join_test told left_on right_on f g = matches_by told left_on right_on f g told.options

-- a join may give this frame of two: along a list of pairs that it may take
abbrev pub Joins : Told → (left_on right_on : List Named) → (f g : Frame) → Frame → Type 0
Joins told left_on right_on f g frame =
    (ps : List RowPair) × ArePicked told.args.how told.args.maintain_order (join_test told left_on right_on f g) f.height g.height ps × (frame ≡ joined told.args (column_keys left_on) (column_keys right_on) ps f g)
