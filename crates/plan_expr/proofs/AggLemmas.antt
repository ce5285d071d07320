-- An aggregate over another expression takes that one, and is the same aggregate.
use Rattle.std.proofs.Common.{◌≡◌, refl}
use Rattle.plan_core.specs.declared.arena.Node.{Node}
use Rattle.plan_expr.specs.declared.agg.IRAggExpr.{IRAggExpr}
use Rattle.plan_expr.specs.declared.agg.IRAggExpr.TheVariants.{Min, Max, Sum, Count, NUnique, First, Last, Implode}
use Rattle.plan_expr.specs.Aggregates.{agg_input, agg_over, agg_op}

pub input-over : (a : IRAggExpr) (n : Node) → agg_input (agg_over a n) ≡ n
input-over (Min input) n = refl
input-over (Max input) n = refl
input-over (Sum input) n = refl
input-over (Count input include_nulls) n = refl
input-over (NUnique input) n = refl
input-over (First input) n = refl
input-over (Last input) n = refl
input-over (Implode input) n = refl

pub op-over : (a : IRAggExpr) (n : Node) → agg_op (agg_over a n) ≡ agg_op a
op-over (Min input) n = refl
op-over (Max input) n = refl
op-over (Sum input) n = refl
op-over (Count input include_nulls) n = refl
op-over (NUnique input) n = refl
op-over (First input) n = refl
op-over (Last input) n = refl
op-over (Implode input) n = refl
