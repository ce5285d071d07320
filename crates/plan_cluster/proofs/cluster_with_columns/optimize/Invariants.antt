-- Trees stand at the stacked numbers, and once they are clustered, so is the whole.
use Rattle.std.proofs.Common.{[], ◌∷◌}
use Rattle.plan_tree.specs.Read.{trees_at}
use Rattle.plan_ir.specs.Parts.{plan_shape}
use Rattle.plan_cluster.proofs.Turns.{Going, left}
use Rattle.plan_cluster.proofs.cluster_with_columns.optimize.Given as goal

abbrev pub invariant-loop-node : goal.invariant-loop-node
invariant-loop-node l = Going l.initial.lp l.ex l.fn.root (trees_at plan_shape l.initial.lp (l.fn.root ∷ [])) l.lp l.stack

abbrev pub decreases-loop-node : goal.decreases-loop-node
decreases-loop-node l = left l.lp l.stack
