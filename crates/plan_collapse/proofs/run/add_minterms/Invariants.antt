-- What was added, with what is left.
use Rattle.std.proofs.Common.{◌≡◌, ◌++◌}
use Rattle.plan_collapse.proofs.run.add_minterms.Given as goal

abbrev pub invariant-loop-minterm : goal.invariant-loop-minterm
invariant-loop-minterm l =
    (goal.iterator-loop-minterm).can_next l.minterm-iterator
    × (goal.iterator-loop-minterm).is_finite l.minterm-iterator
    × (l.all ++ l.minterm-iterator ≡ l.initial.all ++ l.initial.minterm-iterator)
