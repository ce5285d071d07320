-- The numbers up to here are added.
use Rattle.std.proofs.Common.{◌≡◌, ◌++◌, take}
use Rattle.plan_collapse.proofs.rest.add_all.Given as goal

abbrev pub invariant-loop-node : goal.invariant-loop-node
invariant-loop-node l = l.all ≡ l.initial.all ++ take l.node-index l.nodes
