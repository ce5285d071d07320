-- A turn writes the next entry.
use Rattle.std.proofs.Common.{◌∙◌}
use Rattle.plan_text.specs.Nodes.{node_data}
use Rattle.plan_text.proofs.TextLemmas.{next_item}
use Rattle.plan_text.proofs.listing.write_nodes.Goals as goal

pub loop-i-preserved : goal.loop-i-preserved
loop-i-preserved c = record {
  before = c.in_ok-write_node.ensures.before ∙ c.loop-i.invariant.before;
  tokens = next_item node_data c.args.arena.now c.loop-i.i c.get.result.now _ _ _ c.get.ensures.entry c.loop-i.invariant.tokens c.in_ok-write_node.ensures.tokens;
}
