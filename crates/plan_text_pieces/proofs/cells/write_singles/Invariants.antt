-- What is written, and then what is left, are the tokens of the values.
use Rattle.std.proofs.Common.{◌≡◌, ◌++◌, map, drop}
use Rattle.json.specs.Tree.{json_tokens, items_tokens}
use Rattle.serde_json.specs.View.{items_of}
use Rattle.serde_json.specs.Written.{outline, items_outline}
use Rattle.plan_text_pieces.specs.Cells.{single_data}
use Rattle.plan_text_pieces.specs.Values.{list_data}
use Rattle.plan_text_pieces.proofs.cells.write_singles.Given as goal

abbrev pub invariant-loop-value : goal.invariant-loop-value
invariant-loop-value l = record {
  before : l.writer.before ≡ l.fn.writer.before;
  tokens : l.writer.tokens ++ items_tokens (items_outline (items_of (map single_data (drop l.value-index l.values)))) ≡ l.fn.writer.tokens ++ json_tokens (outline (list_data single_data l.values));
}
