use Rattle.std.proofs.Common.{◌∷◌, ◌-◌, length, take, false}
use Rattle.std.specs.List.{All, flat_map}
use Rattle.std.specs.Fn.{FnReturnsAt}
use Rattle.plan_tree.proofs.TreeLemmas.{height_at}
use Rattle.plan_expr.specs.Operands.{expr_shape, operands_of}
use Rattle.plan_expr.specs.Walks.{reached}
use Rattle.plan_expr.proofs.find.+has_match.Given as goal

abbrev pub invariant-loop-operand : goal.invariant-loop-operand
invariant-loop-operand g l = All (λ e. FnReturnsAt g.F.Fn l.matches e false) (l.expr ∷ flat_map (reached l.ex) (take l.place (operands_of l.expr)))

abbrev pub decreases-loop-operand : goal.decreases-loop-operand
decreases-loop-operand g l = length (operands_of l.expr) - l.place

abbrev pub decreases-has_match : goal.decreases-has_match
decreases-has_match g l = height_at expr_shape l.ex.now l.node
