use Rattle.std.proofs.Common.{◌≡◌, ◌++◌}
use Rattle.plan_expr.specs.Exprs.{expr_at}
use Rattle.plan_expr.specs.Leaves.{leaves}
use Rattle.plan_expr.proofs.leaves.aexpr_to_leaf_names.Given as goal

abbrev pub invariant-loop-name : goal.invariant-loop-name
invariant-loop-name l =
    (goal.iterator-loop-name).can_next l.name-iterator
    × (goal.iterator-loop-name).is_finite l.name-iterator
    × (l.names ++ l.name-iterator ≡ leaves (expr_at l.ex l.fn.node))
