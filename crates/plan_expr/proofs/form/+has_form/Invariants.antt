use Rattle.std.proofs.Common.{◌≡◌, ◌-◌, length, take, true}
use Rattle.std.specs.List.{list_all}
use Rattle.plan_tree.proofs.TreeLemmas.{height_at}
use Rattle.plan_expr.specs.Exprs.{expr_at}
use Rattle.plan_expr.specs.Forms.{has_form}
use Rattle.plan_expr.specs.Operands.{expr_shape, operands_of}
use Rattle.plan_expr.proofs.form.+has_form.Given as goal

abbrev pub invariant-loop-operand : goal.invariant-loop-operand
invariant-loop-operand l = list_all (λ m. has_form (expr_at l.ex m)) (take l.place (operands_of l.expr)) ≡ true

abbrev pub decreases-loop-operand : goal.decreases-loop-operand
decreases-loop-operand l = length (operands_of l.expr) - l.place

abbrev pub decreases-has_form : goal.decreases-has_form
decreases-has_form l = height_at expr_shape l.ex.now l.node
