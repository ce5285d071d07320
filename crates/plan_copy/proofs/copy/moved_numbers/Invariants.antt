use Rattle.std.proofs.Common.{◌≡◌, map, take}
use Rattle.plan_ir.specs.Moved.{new_number}
use Rattle.plan_copy.proofs.copy.moved_numbers.Given as goal

abbrev pub invariant-loop-node : goal.invariant-loop-node
invariant-loop-node l = l.moved ≡ map (new_number l.numbering) (take l.node-index l.nodes)
