use Rattle.std.proofs.Common.{◌≡◌, ◌-◌, length, take, true}
use Rattle.std.specs.List.{list_all}
use Rattle.plan_tree.proofs.TreeLemmas.{height_at}
use Rattle.plan_expr.specs.Exprs.{expr_at}
use Rattle.plan_expr.specs.Leaves.{leaves}
use Rattle.plan_expr.specs.Operands.{expr_shape, operands_of}
use Rattle.plan_frame.specs.Exprs.{all_known}
use Rattle.plan_frame.proofs.exprs.+reads_only.Given as goal

abbrev pub invariant-loop-operand : goal.invariant-loop-operand
invariant-loop-operand l = list_all (λ m. all_known (leaves (expr_at l.ex m)) l.schema) (take l.place (operands_of l.expr)) ≡ true

abbrev pub decreases-loop-operand : goal.decreases-loop-operand
decreases-loop-operand l = length (operands_of l.expr) - l.place

abbrev pub decreases-reads_only : goal.decreases-reads_only
decreases-reads_only l = height_at expr_shape l.ex.now l.node
