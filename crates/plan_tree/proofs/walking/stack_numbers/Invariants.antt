-- A step of the loop moves one number from the rest to the stack.
use Rattle.std.proofs.Common.{◌≡◌, ◌++◌, reverse}
use Rattle.plan_tree.specs.Walk.{steps_to}
use Rattle.plan_tree.proofs.walking.stack_numbers.Given as goal

abbrev pub invariant-loop-number : goal.invariant-loop-number
invariant-loop-number g l = l.pending ++ reverse (steps_to l.mark l.number-iterator.iter.rest.now) ≡ l.initial.pending ++ reverse (steps_to l.mark l.initial.number-iterator.iter.rest.now)
