-- The numbers up to here.
use Rattle.std.proofs.Common.{◌≡◌, take}
use Rattle.plan_collapse.specs.KeysAt.{left_nodes}
use Rattle.plan_collapse.proofs.cross.left_list.Given as goal

abbrev pub invariant-loop-key : goal.invariant-loop-key
invariant-loop-key l = l.nodes ≡ left_nodes (take l.key-index l.keys)
