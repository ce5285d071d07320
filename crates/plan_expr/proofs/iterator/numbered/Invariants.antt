use Rattle.std.proofs.Common.{◌≡◌, map, take}
use Rattle.plan_expr.specs.Walks.{numbered_at}
use Rattle.plan_expr.proofs.iterator.numbered.Given as goal

abbrev pub invariant-loop-node : goal.invariant-loop-node
invariant-loop-node l = map (λ q. (q.0, q.1.now)) l.nodes.items ≡ numbered_at l.ex (take l.node-index l.listed)
