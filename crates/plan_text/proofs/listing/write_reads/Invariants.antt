-- What is written, and then what is left, are the tokens of the lists of names.
use Rattle.std.proofs.Common.{◌≡◌, ◌++◌, map, drop}
use Rattle.json.specs.Tree.{json_tokens, items_tokens}
use Rattle.serde_json.specs.View.{items_of}
use Rattle.serde_json.specs.Written.{outline, items_outline}
use Rattle.plan_text_pieces.specs.Values.{list_data, names_data}
use Rattle.plan_text.proofs.listing.write_reads.Given as goal

abbrev pub invariant-loop-names : goal.invariant-loop-names
invariant-loop-names l = record {
  before : l.writer.before ≡ l.fn.writer.before;
  tokens : l.writer.tokens ++ items_tokens (items_outline (items_of (map names_data (drop l.names-index l.reads)))) ≡ l.fn.writer.tokens ++ json_tokens (outline (list_data names_data l.reads));
}
