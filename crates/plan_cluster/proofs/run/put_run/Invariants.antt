-- The layers put so far stand at numbers, one over the other, and the top one is at the number that is told.
use Rattle.plan_cluster.proofs.Runs.{Putting}
use Rattle.plan_cluster.proofs.run.put_run.Given as goal

abbrev pub invariant-loop-layer : goal.invariant-loop-layer
invariant-loop-layer l = Putting l.initial.lp l.lp l.places l.initial.run.items l.run.items l.fn.below l.top

abbrev pub decreases-loop-layer : goal.decreases-loop-layer
decreases-loop-layer l = goal.left-loop-layer l
