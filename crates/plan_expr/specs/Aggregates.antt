-- Aggregates: the expression that they take, and what they are beside it.
use Rattle.plan_core.specs.declared.arena.Node.{Node}
use Rattle.plan_expr.specs.declared.agg.Aggregate.{Aggregate}
use Rattle.plan_expr.specs.declared.agg.Aggregate.TheVariants as kinds
use Rattle.plan_expr.specs.declared.agg.IRAggExpr.{IRAggExpr}
use Rattle.plan_expr.specs.declared.agg.IRAggExpr.TheVariants.{Min, Max, Sum, Count, NUnique, First, Last, Implode}

-- the number of the expression whose values it takes
abbrev pub agg_input : IRAggExpr → Node
agg_input (Min input) = input
agg_input (Max input) = input
agg_input (Sum input) = input
agg_input (Count input include_nulls) = input
agg_input (NUnique input) = input
agg_input (First input) = input
agg_input (Last input) = input
agg_input (Implode input) = input

-- the same of the values of another expression
abbrev pub agg_over : IRAggExpr → Node → IRAggExpr
agg_over (Min input) other = Min other
agg_over (Max input) other = Max other
agg_over (Sum input) other = Sum other
agg_over (Count input include_nulls) other = Count other include_nulls
agg_over (NUnique input) other = NUnique other
agg_over (First input) other = First other
agg_over (Last input) other = Last other
agg_over (Implode input) other = Implode other

-- what an aggregate is, without its expression
abbrev pub agg_op : IRAggExpr → Aggregate
agg_op (Min input) = kinds.Min
agg_op (Max input) = kinds.Max
agg_op (Sum input) = kinds.Sum
agg_op (Count input include_nulls) = kinds.Count include_nulls
agg_op (NUnique input) = kinds.NUnique
agg_op (First input) = kinds.First
agg_op (Last input) = kinds.Last
agg_op (Implode input) = kinds.Implode
