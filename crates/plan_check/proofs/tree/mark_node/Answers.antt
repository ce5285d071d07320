use Rattle.std.proofs.Common.{arith}
use Rattle.plan_check.proofs.TreeFaultLemmas.{none_past}
use Rattle.plan_check.proofs.tree.mark_node.Goals as goal

pub returns-then-node-len : goal.returns-then-node-len
returns-then-node-len c = none_past c.args.lp.now c.args.node c.args.out.now (omega (arith, c.if-node-len.true, c.len.ensures.value))
