-- The tokens of the members, one after another.
use Rattle.std.proofs.Common.{◌∙◌, codes}
use Rattle.std.proofs.lemmas.Result.{on_ok_weaker}
use Rattle.json.specs.Json.{Members, no_members, member}
use Rattle.serde_json.specs.Data.{string}
use Rattle.serde_json.specs.Written.{outline}
use Rattle.plan_text_pieces.specs.Values.{names_data, nullable_data}
use Rattle.plan_text_pieces.proofs.TokenLemmas.{object-begun, member-put}
use Rattle.plan_text_pieces.proofs.functions.write_unpivot.Goals as goal

pub returns-clause-tokens : goal.returns-clause-tokens
unfolding Rattle.plan_text_pieces.specs.Functions.unpivot_data
returns-clause-tokens c =
    let variable : Members = member (codes "variable_name") (outline (nullable_data string c.args.variable_name.now)) no_members in
    let value : Members = member (codes "value_name") (outline (nullable_data string c.args.value_name.now)) variable in
    let on : Members = member (codes "on") (outline (names_data c.args.on.now)) value in
    let index : Members = member (codes "index") (outline (names_data c.args.index.now)) on in
    on_ok_weaker c.end_object.result (λ ended.
    ended
    ∙ member-put _ _ _ _ no_members c.in-Ok-write_optional_name_at-2.ensures.tokens
    ∙ member-put _ _ _ _ variable c.in-Ok-write_optional_name_at.ensures.tokens
    ∙ member-put _ _ _ _ value c.in-Ok-write_names_at-2.ensures.tokens
    ∙ member-put _ _ _ _ on c.in-Ok-write_names_at.ensures.tokens
    ∙ object-begun _ _ index c.in-Ok.ensures.ok) c.end_object.ensures.ok
