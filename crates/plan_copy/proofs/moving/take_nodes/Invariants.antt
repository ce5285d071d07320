-- What was taken, and then what is left, are the listed nodes.
use Rattle.std.proofs.Common.{◌≡◌, ◌++◌, map, drop, length}
use Rattle.plan_ir.specs.Moved.{entries_at, moved_node}
use Rattle.plan_copy.proofs.moving.take_nodes.Given as goal

abbrev pub invariant-loop-node : goal.invariant-loop-node
invariant-loop-node l = record {
  taken : l.taken ++ map (moved_node l.nodes l.exprs) (entries_at l.left (drop l.node-index l.listed)) ≡ map (moved_node l.nodes l.exprs) (entries_at l.initial.left l.listed);
  size : length l.left ≡ length l.initial.left;
}
