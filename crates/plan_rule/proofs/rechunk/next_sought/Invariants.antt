-- Trees stand at the pending numbers, which get fewer nodes at each turn, and the first that is sought is that of the given trees.
use Rattle.plan_rule.proofs.Seeking.{Seeking, waiting}
use Rattle.plan_rule.proofs.rechunk.next_sought.Given as goal

abbrev pub invariant-loop-node : goal.invariant-loop-node
invariant-loop-node l = Seeking l.lp l.initial.pending l.pending

abbrev pub decreases-loop-node : goal.decreases-loop-node
decreases-loop-node l = waiting l.lp l.pending
