-- What is written, and then what is left, are the tokens of the parts.
use Rattle.std.proofs.Common.{◌≡◌, ◌++◌, map, drop}
use Rattle.json.specs.Tree.{json_tokens, items_tokens}
use Rattle.serde_json.specs.View.{items_of}
use Rattle.serde_json.specs.Written.{outline, items_outline}
use Rattle.plan_text_pieces.specs.Hive.{hive_part_data}
use Rattle.plan_text_pieces.specs.Values.{list_data}
use Rattle.plan_text_pieces.proofs.hive.write_hive_parts.Given as goal

abbrev pub invariant-loop-part : goal.invariant-loop-part
invariant-loop-part l = record {
  before : l.writer.before ≡ l.fn.writer.before;
  tokens : l.writer.tokens ++ items_tokens (items_outline (items_of (map hive_part_data (drop l.part-index l.parts)))) ≡ l.fn.writer.tokens ++ json_tokens (outline (list_data hive_part_data l.parts));
}
