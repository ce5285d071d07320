-- The loop knows trees at the pending numbers, which get fewer nodes at each turn.
use Rattle.std.proofs.Common.{map}
use Rattle.plan_ir.proofs.WalkLemmas.{Goes, left}
use Rattle.plan_ir.proofs.iterator.add_reached.Given as goal

abbrev pub invariant-loop-node : goal.invariant-loop-node
invariant-loop-node l = Goes l.lp l.fn.root (map (λ q. (q.0, q.1.now)) l.nodes.items) l.pending

abbrev pub decreases-loop-node : goal.decreases-loop-node
decreases-loop-node l = left l.lp l.pending
