-- The nodes, one for one.
use Rattle.std.proofs.Common.{rules}
use Rattle.plan_text.specs.Nodes.{node_data}
use Rattle.plan_text_values.proofs.ListLemmas.{each_is_written}
use Rattle.plan_text.proofs.plan.nodes.Goals as goal

pub returns : goal.returns
returns c = each_is_written node_data c.in_ok-written.ensures (λ x r p. search rules)
