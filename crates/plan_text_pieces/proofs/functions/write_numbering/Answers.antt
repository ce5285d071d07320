-- The tokens of the members, one after another.
use Rattle.std.proofs.Common.{◌∙◌, append_assoc, refl}
use Rattle.std.proofs.lemmas.Result.{on_ok_weaker}
use Rattle.plan_text_pieces.proofs.functions.write_numbering.Goals as goal

pub returns-clause-tokens : goal.returns-clause-tokens
unfolding Rattle.plan_text_pieces.specs.Functions.numbering_data
returns-clause-tokens c =
    on_ok_weaker c.end_object.result (λ ended. ended ∙ simp (
      c.in-Ok-write_optional_number.ensures.tokens,
      c.in-Ok-key-2.ensures.ok,
      c.in-Ok-string.ensures.ok,
      c.in-Ok-key.ensures.ok,
      c.in-Ok.ensures.ok,
      append_assoc,
    ) refl) c.end_object.ensures.ok
