use Rattle.std.proofs.Common.{◌≡◌, ◌-◌, length, take, true}
use Rattle.std.specs.List.{list_all}
use Rattle.plan_tree.proofs.TreeLemmas.{height_at}
use Rattle.plan_expr.specs.Exprs.{expr_at}
use Rattle.plan_expr.specs.Operands.{expr_shape, operands_of}
use Rattle.plan_expr.specs.Scalars.{is_scalar}
use Rattle.plan_expr.proofs.scalar.+is_scalar.Given as goal

abbrev pub invariant-loop-operand : goal.invariant-loop-operand
invariant-loop-operand l = list_all (λ m. is_scalar (expr_at l.ex m)) (take l.place (operands_of l.expr)) ≡ true

abbrev pub decreases-loop-operand : goal.decreases-loop-operand
decreases-loop-operand l = length (operands_of l.expr) - l.place

abbrev pub decreases-is_scalar : goal.decreases-is_scalar
decreases-is_scalar l = height_at expr_shape l.ex.now l.node
