use Rattle.plan_collapse.proofs.Places.{one_stands}
use Rattle.plan_collapse.proofs.RunMinterms.{running-next}
use Rattle.plan_collapse.proofs.run.run_minterms.Goals as goal

pub add_minterms-requires : goal.add_minterms-requires
add_minterms-requires c = one_stands c.args.ex.now c.args.run.now c.loop-node.node-index (record { 0 = 0 }) c.loop-node-test.true c.requires

pub loop-node-preserved : goal.loop-node-preserved
loop-node-preserved c = running-next c.args.ex.now c.args.run.now c.loop-node.all c.add_minterms.new.all c.loop-node.node-index (record { 0 = 0 }) c.loop-node-test.true c.in_ok-add_minterms.ensures c.loop-node.invariant
