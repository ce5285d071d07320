use Rattle.std.proofs.Common.{◌≡◌, ◌-◌, length, take}
use Rattle.std.specs.List.{flat_map}
use Rattle.plan_core.specs.Names.{with_names}
use Rattle.plan_tree.proofs.TreeLemmas.{height_at}
use Rattle.plan_expr.specs.Exprs.{expr_at}
use Rattle.plan_expr.specs.Leaves.{leaves}
use Rattle.plan_expr.specs.Operands.{expr_shape, operands_of}
use Rattle.plan_prune_parts.proofs.exprs.+add_names.Given as goal

abbrev pub invariant-loop-operand : goal.invariant-loop-operand
invariant-loop-operand l = l.names ≡ with_names l.initial.names (flat_map (λ m. leaves (expr_at l.ex m)) (take l.place (operands_of l.expr)))

abbrev pub decreases-loop-operand : goal.decreases-loop-operand
decreases-loop-operand l = length (operands_of l.expr) - l.place

abbrev pub decreases-add_names : goal.decreases-add_names
decreases-add_names l = height_at expr_shape l.ex.now l.node
