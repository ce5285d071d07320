-- The layers taken so far stood at their numbers, one over the other, down to the node that is looked at.
use Rattle.plan_tree.proofs.TreeLemmas.{height_at}
use Rattle.plan_ir.specs.Parts.{plan_shape}
use Rattle.plan_cluster.proofs.Runs.{Taking}
use Rattle.plan_cluster.proofs.run.take_run.Given as goal

abbrev pub invariant-loop-input : goal.invariant-loop-input
invariant-loop-input l = Taking l.initial.lp l.lp l.fn.node l.places.items l.run.items l.below

abbrev pub decreases-loop-input : goal.decreases-loop-input
decreases-loop-input l = height_at plan_shape l.initial.lp l.below
