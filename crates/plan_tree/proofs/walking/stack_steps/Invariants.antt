-- A step of the loop moves one root from the rest to the stack.
use Rattle.std.proofs.Common.{◌≡◌, ◌++◌, reverse}
use Rattle.plan_tree.proofs.walking.stack_steps.Given as goal

abbrev pub invariant-loop-step : goal.invariant-loop-step
invariant-loop-step g l = l.pending ++ reverse l.step-iterator.iter.rest.now ≡ l.initial.pending ++ reverse l.initial.step-iterator.iter.rest.now
