use Rattle.std.proofs.Common.{◌≡◌, map, take}
use Rattle.plan_builder.specs.Builds.{own_expr}
use Rattle.plan_builder.proofs.made.own_exprs.Given as goal

abbrev pub invariant-loop-node : goal.invariant-loop-node
invariant-loop-node l = l.exprs ≡ map (own_expr l.ex) (take l.node-index l.nodes)
