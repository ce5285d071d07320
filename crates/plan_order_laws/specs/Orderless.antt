-- What is the same of rows in any order.
use Rattle.std.specs.Prelude.{Bool, true, false}
use Rattle.plan_options.specs.declared.distinct.UniqueKeepStrategy.{UniqueKeepStrategy}
use Rattle.plan_options.specs.declared.distinct.UniqueKeepStrategy.TheVariants as keeps
use Rattle.plan_expr.specs.declared.agg.Aggregate.{Aggregate}
use Rattle.plan_expr.specs.declared.agg.Aggregate.TheVariants.{Min, Max, Sum, Count, NUnique, First, Last, Implode}

-- whether an aggregate makes the same of values in any order
abbrev pub ignores_order : Aggregate → Bool
ignores_order Min = true
ignores_order Max = true
ignores_order Sum = true
ignores_order (Count nulls) = true
ignores_order NUnique = true
ignores_order First = false
ignores_order Last = false
ignores_order Implode = false

-- whether distinct rows demand the order of their input, where theirs is demanded or not
abbrev pub distinct_demands : UniqueKeepStrategy → Bool → Bool
distinct_demands keeps.First ordered = true
distinct_demands keeps.Last ordered = true
distinct_demands keeps.Any ordered = ordered
distinct_demands keeps.None ordered = ordered
