-- What is written, and then what is left, are the tokens of the columns.
use Rattle.std.proofs.Common.{◌≡◌, ◌++◌, map, drop}
use Rattle.json.specs.Tree.{json_tokens, items_tokens}
use Rattle.serde_json.specs.View.{items_of}
use Rattle.serde_json.specs.Written.{outline, items_outline}
use Rattle.plan_text_pieces.specs.Hive.{hive_column_data}
use Rattle.plan_text_pieces.specs.Values.{list_data}
use Rattle.plan_text_pieces.proofs.hive.write_hive_part.Given as goal

abbrev pub invariant-loop-column : goal.invariant-loop-column
invariant-loop-column l = record {
  before : l.writer.before ≡ l.fn.writer.before;
  tokens : l.writer.tokens ++ items_tokens (items_outline (items_of (map hive_column_data (drop l.column-index l.columns)))) ≡ l.fn.writer.tokens ++ json_tokens (outline (list_data hive_column_data l.columns));
}
