-- The tokens of the members, one after another.
use Rattle.std.proofs.Common.{◌∙◌, codes}
use Rattle.std.proofs.lemmas.Result.{on_ok_weaker}
use Rattle.json.specs.Json.{Members, no_members, member}
use Rattle.serde_json.specs.Data.{boolean}
use Rattle.serde_json.specs.Written.{outline}
use Rattle.plan_text_pieces.specs.Values.{names_data}
use Rattle.plan_text_pieces.proofs.TokenLemmas.{object-begun, member-done, member-put}
use Rattle.plan_text_pieces.proofs.functions.write_rename.Goals as goal

pub returns-clause-tokens : goal.returns-clause-tokens
unfolding Rattle.plan_text_pieces.specs.Functions.rename_data
returns-clause-tokens c =
    let swapping : Members = member (codes "swapping") (outline (boolean c.args.swapping)) no_members in
    let new : Members = member (codes "new") (outline (names_data c.args.new.now)) swapping in
    let existing : Members = member (codes "existing") (outline (names_data c.args.existing.now)) new in
    on_ok_weaker c.end_object.result (λ ended.
    ended
    ∙ member-done _ _ _ _ (outline (boolean c.args.swapping)) no_members c.in-Ok-key.ensures.ok c.in-Ok-boolean.ensures.ok
    ∙ member-put _ _ _ _ swapping c.in-Ok-write_names_at-2.ensures.tokens
    ∙ member-put _ _ _ _ new c.in-Ok-write_names_at.ensures.tokens
    ∙ object-begun _ _ existing c.in-Ok.ensures.ok) c.end_object.ensures.ok
