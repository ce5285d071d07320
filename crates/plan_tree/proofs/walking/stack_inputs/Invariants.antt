-- A step of the loop moves the last number from the room to the stack.
use Rattle.std.proofs.Common.{◌≡◌, ◌++◌, length, reverse}
use Rattle.plan_tree.specs.Walk.{steps_to}
use Rattle.plan_tree.proofs.walking.stack_inputs.Given as goal

abbrev pub invariant-loop-node : goal.invariant-loop-node
invariant-loop-node g l = l.pending ++ reverse (steps_to l.mark l.inputs) ≡ l.initial.pending ++ reverse (steps_to l.mark l.initial.inputs)

abbrev pub decreases-loop-node : goal.decreases-loop-node
decreases-loop-node g l = length l.inputs
