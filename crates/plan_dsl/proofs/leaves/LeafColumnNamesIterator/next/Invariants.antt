use Rattle.std.proofs.Common.{◌≡◌, length}
use Rattle.std.specs.List.{filter_map}
use Rattle.plan_dsl.specs.Names.{column_name}
use Rattle.plan_dsl.proofs.leaves.LeafColumnNamesIterator.next.Given as goal

abbrev pub invariant-loop-expr : goal.invariant-loop-expr
invariant-loop-expr l = filter_map column_name l.self-inside.walk ≡ filter_map column_name l.initial.self-inside.walk

abbrev pub decreases-loop-expr : goal.decreases-loop-expr
decreases-loop-expr l = length l.self-inside.walk
