-- What is written, and then what is left, are the tokens of the expressions.
use Rattle.std.proofs.Common.{◌≡◌, ◌++◌, map, drop}
use Rattle.json.specs.Tree.{json_tokens, items_tokens}
use Rattle.serde_json.specs.View.{items_of}
use Rattle.serde_json.specs.Written.{outline, items_outline}
use Rattle.plan_text_pieces.specs.Values.{list_data}
use Rattle.plan_text.specs.Exprs.{expr_data}
use Rattle.plan_text.proofs.listing.write_exprs.Given as goal

abbrev pub invariant-loop-i : goal.invariant-loop-i
invariant-loop-i l = record {
  before : l.writer.before ≡ l.fn.writer.before;
  tokens : l.writer.tokens ++ items_tokens (items_outline (items_of (map expr_data (drop l.i l.arena)))) ≡ l.fn.writer.tokens ++ json_tokens (outline (list_data expr_data l.arena));
}
