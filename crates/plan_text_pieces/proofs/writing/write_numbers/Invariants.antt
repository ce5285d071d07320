-- What is written, and then what is left, are the tokens of the numbers.
use Rattle.std.proofs.Common.{◌≡◌, ◌++◌, map, drop}
use Rattle.json.specs.Tree.{json_tokens, items_tokens}
use Rattle.serde_json.specs.View.{items_of}
use Rattle.serde_json.specs.Written.{outline, items_outline}
use Rattle.plan_text_pieces.specs.Values.{list_data, number_data}
use Rattle.plan_text_pieces.proofs.writing.write_numbers.Given as goal

abbrev pub invariant-loop-number : goal.invariant-loop-number
invariant-loop-number l = record {
  before : l.writer.before ≡ l.fn.writer.before;
  tokens : l.writer.tokens ++ items_tokens (items_outline (items_of (map number_data (drop l.number-index l.numbers)))) ≡ l.fn.writer.tokens ++ json_tokens (outline (list_data number_data l.numbers));
}
