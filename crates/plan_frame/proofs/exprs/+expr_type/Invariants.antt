use Rattle.std.proofs.Common.{◌-◌, length}
use Rattle.plan_tree.proofs.TreeLemmas.{height_at}
use Rattle.plan_expr.specs.Operands.{expr_shape, operands_of}
use Rattle.plan_frame.proofs.ExprSteps.{TypedTo}
use Rattle.plan_frame.proofs.exprs.+expr_type.Given as goal

abbrev pub decreases-expr_type : goal.decreases-expr_type
decreases-expr_type l = height_at expr_shape l.ex.now l.node

abbrev pub invariant-loop-operand : goal.invariant-loop-operand
invariant-loop-operand l = TypedTo l.ex l.schema (operands_of l.expr) l.place l.types

abbrev pub decreases-loop-operand : goal.decreases-loop-operand
decreases-loop-operand l = length (operands_of l.expr) - l.place
