use Rattle.std.proofs.Common.{◌≡◌, map, take}
use Rattle.plan_ir.specs.Moved.{entries_at, moved_node}
use Rattle.plan_copy.proofs.copy.moved_nodes.Given as goal

abbrev pub invariant-loop-node : goal.invariant-loop-node
invariant-loop-node l = l.copies ≡ map (moved_node l.nodes l.exprs) (entries_at l.lp (take l.node-index l.listed))
