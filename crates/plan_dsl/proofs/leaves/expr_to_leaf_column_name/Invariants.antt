use Rattle.std.proofs.Common.{◌≡◌, ◌++◌}
use Rattle.std.specs.Prelude.{filter}
use Rattle.std.specs.Option.{option_copied, option_to_list}
use Rattle.plan_dsl.specs.Names.{is_leaf_column}
use Rattle.plan_dsl.specs.Walks.{preorder}
use Rattle.plan_dsl.proofs.leaves.expr_to_leaf_column_name.Given as goal

abbrev pub invariant-loop-leaf : goal.invariant-loop-leaf
invariant-loop-leaf l =
    (goal.iterator-loop-leaf).can_next l.leaf-iterator
    × (goal.iterator-loop-leaf).is_finite l.leaf-iterator
    × (option_to_list (option_copied l.found) ++ filter is_leaf_column l.leaf-iterator ≡ filter is_leaf_column (preorder l.expr))
