use Rattle.std.proofs.Common.{◌≡◌, ◌-◌, length, map, take}
use Rattle.plan_tree.proofs.TreeLemmas.{height_at}
use Rattle.plan_expr.specs.Exprs.{expr_at, expr_op}
use Rattle.plan_expr.specs.Naming.{first_named, named_part, naming, unnamed}
use Rattle.plan_expr.specs.Operands.{expr_shape, operands_of}
use Rattle.plan_expr.proofs.names.+decided_name.Given as goal

abbrev pub invariant-loop-operand : goal.invariant-loop-operand
invariant-loop-operand l = first_named (map (λ m. naming (expr_at l.ex m)) (take l.place (named_part (expr_op l.expr) (operands_of l.expr)))) ≡ unnamed

abbrev pub decreases-loop-operand : goal.decreases-loop-operand
decreases-loop-operand l = length (operands_of l.expr) - l.place

abbrev pub decreases-decided_name : goal.decreases-decided_name
decreases-decided_name l = height_at expr_shape l.ex.now l.node
