use Rattle.std.proofs.Common.{◌≡◌, map, take}
use Rattle.plan_builder.specs.Picks.{column_at}
use Rattle.plan_builder.proofs.simple.column_names.Given as goal

abbrev pub invariant-loop-node : goal.invariant-loop-node
invariant-loop-node l = l.names ≡ map (column_at l.ex) (take l.node-index l.nodes)
