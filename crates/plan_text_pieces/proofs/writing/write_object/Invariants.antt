-- What is written, and then what is left, are the tokens of the object.
use Rattle.std.proofs.Common.{◌≡◌, ◌++◌, map, drop}
use Rattle.json.specs.Tree.{json_tokens, members_tokens}
use Rattle.serde_json.specs.Written.{outline, members_outline}
use Rattle.plan_text_pieces.specs.Lists.{members_from}
use Rattle.plan_text_pieces.specs.Pieces.{object_of, piece_entry}
use Rattle.plan_text_pieces.proofs.writing.write_object.Given as goal

abbrev pub invariant-loop-key : goal.invariant-loop-key
invariant-loop-key l = record {
  before : l.writer.before ≡ l.fn.writer.before;
  tokens : l.writer.tokens ++ members_tokens (members_outline (members_from (map piece_entry (drop l.key-index l.entries)))) ≡ l.fn.writer.tokens ++ json_tokens (outline (object_of l.entries));
}
