use Rattle.std.proofs.Common.{◌≡◌, ◌-◌, length, take, true}
use Rattle.plan_tree.proofs.TreeLemmas.{height_at}
use Rattle.plan_expr.specs.Exprs.{exprs_at}
use Rattle.plan_expr.specs.Operands.{expr_shape, operands_of}
use Rattle.plan_expr.specs.Same.{same_trees}
use Rattle.plan_expr.proofs.same.+is_same.Given as goal

abbrev pub decreases-is_same : goal.decreases-is_same
decreases-is_same l = height_at expr_shape l.ex.now l.left

abbrev pub invariant-loop-operand : goal.invariant-loop-operand
invariant-loop-operand l = same_trees (exprs_at l.ex (take l.place (operands_of l.own))) (exprs_at l.ex (take l.place (operands_of l.other))) ≡ true

abbrev pub decreases-loop-operand : goal.decreases-loop-operand
decreases-loop-operand l = length (operands_of l.own) - l.place
