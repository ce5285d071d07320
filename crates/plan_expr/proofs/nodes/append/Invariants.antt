use Rattle.std.proofs.Common.{◌≡◌, ◌++◌, take}
use Rattle.plan_expr.proofs.nodes.append.Given as goal

abbrev pub invariant-loop-node : goal.invariant-loop-node
invariant-loop-node l = l.out ≡ l.initial.out ++ take l.node-index l.nodes
