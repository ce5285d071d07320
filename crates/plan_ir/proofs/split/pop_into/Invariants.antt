-- What was taken from the end lies behind what is left, the last item first.
use Rattle.std.proofs.Common.{◌≡◌, ◌≤◌, ◌++◌, length, reverse}
use Rattle.plan_ir.proofs.split.pop_into.Given as goal

abbrev pub invariant-loop-from : goal.invariant-loop-from
invariant-loop-from g l = (l.initial.from ≡ l.from ++ reverse l.out) × (l.count ≤ length l.from)

abbrev pub decreases-loop-from : goal.decreases-loop-from
decreases-loop-from g l = length l.from
