use Rattle.std.proofs.Common.{◌≡◌, take}
use Rattle.plan_meaning.specs.TreeFaults.{marked_exprs}
use Rattle.plan_check.proofs.tree.marked_exprs.Given as goal

abbrev pub invariant-loop-node : goal.invariant-loop-node
invariant-loop-node l = l.steps ≡ marked_exprs l.lp (take l.node-index l.nodes)
