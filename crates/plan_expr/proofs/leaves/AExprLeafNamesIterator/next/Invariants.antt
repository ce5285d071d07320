use Rattle.std.proofs.Common.{◌≡◌, length}
use Rattle.plan_expr.specs.Walks.{column_names}
use Rattle.plan_expr.proofs.leaves.AExprLeafNamesIterator.next.Given as goal

abbrev pub invariant-loop-expr : goal.invariant-loop-expr
invariant-loop-expr l = column_names l.self-inside.walk ≡ column_names l.initial.self-inside.walk

abbrev pub decreases-loop-expr : goal.decreases-loop-expr
decreases-loop-expr l = length l.self-inside.walk
