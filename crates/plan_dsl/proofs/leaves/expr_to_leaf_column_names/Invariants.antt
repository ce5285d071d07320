use Rattle.std.proofs.Common.{◌≡◌, ◌++◌}
use Rattle.plan_dsl.specs.Names.{leaf_column_names}
use Rattle.plan_dsl.proofs.leaves.expr_to_leaf_column_names.Given as goal

abbrev pub invariant-loop-name : goal.invariant-loop-name
invariant-loop-name l =
    (goal.iterator-loop-name).can_next l.name-iterator
    × (goal.iterator-loop-name).is_finite l.name-iterator
    × (l.names ++ l.name-iterator ≡ leaf_column_names l.expr)
