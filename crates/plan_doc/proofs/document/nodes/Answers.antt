use Rattle.std.proofs.Common.{rules}
use Rattle.plan_doc.specs.Document.{nodes_of}
use Rattle.plan_doc_nodes.specs.Nodes.{node_of}
use Rattle.plan_doc_parts.proofs.PairLemmas.{each_is_read}
use Rattle.plan_doc.proofs.document.nodes.Goals as goal

pub returns : goal.returns
unfolding nodes_of
returns c = rw c.in_ok-entries.ensures (each_is_read node_of c.arena_of_each.ensures (λ v r p. search rules))
