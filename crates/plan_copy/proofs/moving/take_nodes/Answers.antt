-- A turn takes the next listed node.
use Rattle.std.proofs.Common.{◌∙◌, length, ap}
use Rattle.std.proofs.lemmas.List.{length-set}
use Rattle.plan_ir.specs.Moved.{moved_node}
use Rattle.plan_copy.proofs.TakenLemmas.{taken_more}
use Rattle.plan_copy.proofs.moving.take_nodes.Goals as goal

pub loop-node-preserved : goal.loop-node-preserved
loop-node-preserved c = record {
  taken = taken_more (moved_node c.args.nodes.now c.args.exprs.now) c.args.listed.now c.loop-node.node-index (record { 0 = 0 }) c.args.left.now c.loop-node.left c.take.new.self c.loop-node.taken c.add.new.self
      c.take.result c.take.ensures.after.0 c.in_ok-moved.moved c.requires.distinct c.loop-node-test.true c.take.ensures.given c.take.ensures.after.2 c.in_ok-add.ensures.added c.in_ok-moved.ensures c.loop-node.invariant.taken;
  size = ap length c.take.ensures.after.2 ∙ length-set c.loop-node.left _ _ ∙ c.loop-node.invariant.size;
}
