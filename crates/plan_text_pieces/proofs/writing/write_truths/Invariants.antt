-- What is written, and then what is left, are the tokens of the truth values.
use Rattle.std.proofs.Common.{◌≡◌, ◌++◌, map, drop}
use Rattle.json.specs.Tree.{json_tokens, items_tokens}
use Rattle.serde_json.specs.Data.{boolean}
use Rattle.serde_json.specs.View.{items_of}
use Rattle.serde_json.specs.Written.{outline, items_outline}
use Rattle.plan_text_pieces.specs.Values.{list_data}
use Rattle.plan_text_pieces.proofs.writing.write_truths.Given as goal

abbrev pub invariant-loop-truth : goal.invariant-loop-truth
invariant-loop-truth l = record {
  before : l.writer.before ≡ l.fn.writer.before;
  tokens : l.writer.tokens ++ items_tokens (items_outline (items_of (map boolean (drop l.truth-index l.given)))) ≡ l.fn.writer.tokens ++ json_tokens (outline (list_data boolean l.given));
}
