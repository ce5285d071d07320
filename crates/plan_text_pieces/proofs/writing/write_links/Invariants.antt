-- What is written, and then what is left, are the tokens of the numbers.
use Rattle.std.proofs.Common.{◌≡◌, ◌++◌, map, drop}
use Rattle.json.specs.Tree.{json_tokens, items_tokens}
use Rattle.serde_json.specs.View.{items_of}
use Rattle.serde_json.specs.Written.{outline, items_outline}
use Rattle.plan_text_pieces.specs.Values.{link_data, list_data}
use Rattle.plan_text_pieces.proofs.writing.write_links.Given as goal

abbrev pub invariant-loop-node : goal.invariant-loop-node
invariant-loop-node l = record {
  before : l.writer.before ≡ l.fn.writer.before;
  tokens : l.writer.tokens ++ items_tokens (items_outline (items_of (map link_data (drop l.node-index l.nodes)))) ≡ l.fn.writer.tokens ++ json_tokens (outline (list_data link_data l.nodes));
}
