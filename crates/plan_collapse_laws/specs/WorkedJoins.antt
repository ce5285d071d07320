-- Collapsed joins worked out.
use Rattle.std.specs.Prelude.{◌≡◌, ℕ, pos, Bool, true, false, List, [], ◌∷◌, Option, Some, None, codes}
use Rattle.plan_core.specs.Columns.{Columns}
use Rattle.plan_core.specs.declared.data_type.DataType.TheVariants as types
use Rattle.plan_options.specs.declared.join.InequalityOperator.TheVariants as inequality
use Rattle.plan_options.specs.declared.join.JoinCoalesce.{JoinCoalesce}
use Rattle.plan_options.specs.declared.join.JoinCoalesce.TheVariants.{JoinSpecific, KeepColumns}
use Rattle.plan_options.specs.declared.join.JoinType.{JoinType}
use Rattle.plan_options.specs.declared.join.JoinType.TheVariants.{Inner, Cross, IEJoin}
use Rattle.plan_options.specs.declared.join.MaintainOrderJoin.{MaintainOrderJoin}
use Rattle.plan_options.specs.declared.join.MaintainOrderJoin.TheVariants as orders
use Rattle.plan_tree.specs.Rose.{Roses, rose, no_roses, more}
use Rattle.plan_expr.specs.declared.agg.Aggregate.TheVariants.{Sum}
use Rattle.plan_expr.specs.declared.expr_ir.OutputName.TheVariants as output
use Rattle.plan_expr.specs.declared.literal.LiteralValue.TheVariants as literals
use Rattle.plan_expr.specs.declared.operator.Operator.{Operator}
use Rattle.plan_expr.specs.declared.operator.Operator.TheVariants.{And, Eq, Lt, Gt, GtEq, Plus}
use Rattle.plan_expr.specs.Exprs.{aggregate, binary, column, literal, Expr, Named}
use Rattle.plan_expr.specs.Leaves.{Name}
use Rattle.plan_join.specs.Told.{KindOptions, condition, inequalities, Told}
use Rattle.plan_ir.specs.Plans.{Op, filter, frame_scan, join, Plan}
use Rattle.plan_collapse_laws.specs.Collapsed.{collapsed}

-- a column
abbrev pub col : Name → Expr
col a = rose tt (column a) no_roses

-- a whole number
abbrev pub num : ℕ → Expr
num n = rose tt (literal (literals.Int64 (pos n))) no_roses

-- an operator over two operands
abbrev pub of_two : Operator → Expr → Expr → Expr
of_two op a b = rose tt (binary op) (more a (more b no_roses))

-- an expression under the name of a column
abbrev pub named_after : Name → Expr → Named
named_after a e = record { name = output.ColumnLhs a; expr = e }

-- columns of whole numbers
abbrev pub ints : List Name → Columns
ints [] = []
ints (a ∷ names) = (a, types.Int64) ∷ ints names

-- the column of the left side, and that of the right side
abbrev pub l : Name
l = codes "l"

abbrev pub r : Name
r = codes "r"

-- a scan of a frame of one whole number
abbrev pub scanned : Name → Plan
scanned a = rose tt (frame_scan (Some 0) (ints (a ∷ [])) None) no_roses

-- the sides of the joins here
abbrev pub inputs : Roses (Unit {0}) Op
inputs = more (scanned l) (more (scanned r) no_roses)

-- what a join here is told
abbrev pub told_here : JoinType → JoinCoalesce → (nulls : Bool) → MaintainOrderJoin → Option KindOptions → Told
told_here how coalesce nulls order options = record { allow_parallel = true; force_parallel = false; args = record { how = how; coalesce = coalesce; suffix = None; join_nulls = nulls; maintain_order = order; slice = None }; options = options }

-- a join of the two sides
abbrev pub joining : (left_on right_on : List Named) → Told → Plan
joining left_on right_on told = rose tt (join left_on right_on (ints (l ∷ r ∷ [])) told) inputs

-- a filter over a cross join in an order
abbrev pub over_cross : Named → MaintainOrderJoin → Plan
over_cross e order = rose tt (filter e) (more (joining [] [] (told_here Cross JoinSpecific true order None)) no_roses)

-- an equality of both sides becomes a key of an inner join, which matches no nulls
abbrev pub BecomesEquality : Type 0
BecomesEquality =
    collapsed (over_cross (named_after l (of_two Eq (col l) (col r))) orders.Left)
    ≡ joining (named_after l (col l) ∷ []) (named_after r (col r) ∷ []) (told_here Inner KeepColumns false orders.Left None)

-- an inequality with the right side's operand first is turned round
abbrev pub BecomesInequality : Type 0
BecomesInequality =
    collapsed (over_cross (named_after r (of_two Gt (col r) (col l))) orders.None)
    ≡ joining (named_after l (col l) ∷ []) (named_after r (col r) ∷ []) (told_here IEJoin KeepColumns false orders.None (Some (inequalities (record { operator1 = inequality.Lt; operator2 = None }))))

-- a sum of both sides that is to be 3
abbrev pub sum_is_three : Named
sum_is_three = named_after l (of_two Eq (of_two Plus (col l) (col r)) (num 3))

-- where no minterm is eligible and the order is free, the run is the condition of the cross join
abbrev pub BecomesCondition : Type 0
BecomesCondition = collapsed (over_cross sum_is_three orders.None) ≡ joining [] [] (told_here Cross KeepColumns true orders.None (Some (condition sum_is_three)))

-- where the order is asked nothing changes
abbrev pub StaysInOrder : Type 0
StaysInOrder = collapsed (over_cross sum_is_three orders.Left) ≡ over_cross sum_is_three orders.Left

-- an inequality with the sum over a column, which is not elementwise and ends the run
abbrev pub over_sum : Named
over_sum = named_after r (of_two Gt (rose tt (aggregate Sum) (more (col r) no_roses)) (col l))

-- under it nothing changes
abbrev pub StaysUnderSum : Type 0
StaysUnderSum = collapsed (over_cross over_sum orders.None) ≡ over_cross over_sum orders.None

-- a cross join by a condition, under a filter by an equality of both sides and two other minterms
abbrev pub with_rest : Plan
with_rest = rose tt (filter (named_after l (of_two And (of_two Eq (col l) (col r)) (of_two And sum_is_three.expr (of_two Lt (col r) (num 4)))))) (more (joining [] [] (told_here Cross JoinSpecific true orders.None (Some (condition (named_after l (of_two Lt (col l) (num 5))))))) no_roses)

-- what remains and then the condition that the join had stand above it, joined by And to the left
abbrev pub LeavesRest : Type 0
LeavesRest =
    collapsed with_rest
    ≡ rose tt (filter (named_after l (of_two And (of_two And sum_is_three.expr (of_two Lt (col r) (num 4))) (of_two Lt (col l) (num 5))))) (more (joining (named_after l (col l) ∷ []) (named_after r (col r) ∷ []) (told_here Inner KeepColumns false orders.None None)) no_roses)

-- of three inequalities the first two are keys, from the topmost filter down
abbrev pub TakesTwo : Type 0
TakesTwo =
    collapsed (rose tt (filter (named_after l (of_two Lt (col l) (col r)))) (more (over_cross (named_after l (of_two And (of_two GtEq (col r) (col l)) (of_two Gt (col l) (col r)))) orders.None) no_roses))
    ≡ rose tt (filter (named_after l (of_two Gt (col l) (col r)))) (more (joining (named_after l (col l) ∷ named_after l (col l) ∷ []) (named_after r (col r) ∷ named_after r (col r) ∷ []) (told_here IEJoin KeepColumns false orders.None (Some (inequalities (record { operator1 = inequality.Lt; operator2 = Some inequality.LtEq }))))) no_roses)

-- a filter that isn't elementwise ends the run, and a filter below it begins another
abbrev pub BeginsAgain : Type 0
BeginsAgain =
    collapsed (rose tt (filter sum_is_three) (more (rose tt (filter over_sum) (more (over_cross (named_after l (of_two Eq (col l) (col r))) orders.Left) no_roses)) no_roses))
    ≡ rose tt (filter sum_is_three) (more (rose tt (filter over_sum) (more (joining (named_after l (col l) ∷ []) (named_after r (col r) ∷ []) (told_here Inner KeepColumns false orders.Left None)) no_roses)) no_roses)
