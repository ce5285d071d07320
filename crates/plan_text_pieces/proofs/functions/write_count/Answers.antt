-- The tokens of the members, one after another.
use Rattle.std.proofs.Common.{◌∙◌, ◌++◌, ℕ, List, ap, codes}
use Rattle.std.proofs.lemmas.Result.{on_ok_weaker}
use Rattle.json.specs.Json.{Members, no_members, member}
use Rattle.json.specs.Tree.{json_tokens}
use Rattle.plan_scan.specs.Sources.{kind_name}
use Rattle.serde_json.specs.Data.{string}
use Rattle.serde_json.specs.Written.{outline}
use Rattle.plan_text_pieces.specs.Values.{nullable_data, sources_data}
use Rattle.plan_text_pieces.proofs.TokenLemmas.{object-begun, member-done, member-put}
use Rattle.plan_text_pieces.proofs.functions.write_count.Goals as goal

pub returns-clause-tokens : goal.returns-clause-tokens
unfolding Rattle.plan_text_pieces.specs.Functions.count_data
returns-clause-tokens c =
    let from : Members = member (codes "sources") (outline (sources_data c.args.from.now)) no_members in
    let kind : Members = member (codes "kind") (outline (string (kind_name c.args.format.now))) from in
    let alias : Members = member (codes "alias") (outline (nullable_data string c.args.alias.now)) kind in
    let named = c.in-Ok-string.ensures.ok ∙ ap (λ (s : List ℕ). c.key.new.self.tokens ++ json_tokens (outline (string s))) c.name.ensures in
    on_ok_weaker c.end_object.result (λ ended.
    ended
    ∙ member-done _ _ _ _ _ no_members c.in-Ok-key-2.ensures.ok c.in-Ok-write_sources.ensures.tokens
    ∙ member-done _ _ _ _ (outline (string (kind_name c.args.format.now))) from c.in-Ok-key.ensures.ok named
    ∙ member-put _ _ _ _ kind c.in-Ok-write_optional_name_at.ensures.tokens
    ∙ object-begun _ _ alias c.in-Ok.ensures.ok) c.end_object.ensures.ok
