use Rattle.plan_collapse.proofs.Places.{one_stands}
use Rattle.plan_collapse.proofs.named.all_self_named.Goals as goal

pub self_named-requires-clause-stands : goal.self_named-requires-clause-stands
self_named-requires-clause-stands c = one_stands c.args.ex.now c.args.nodes.now c.loop-node.node-index (record { 0 = 0 }) c.loop-node-test.true c.requires.stands
