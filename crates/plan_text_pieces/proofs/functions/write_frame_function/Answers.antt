-- The tokens of the only member.
use Rattle.std.proofs.Common.{◌∙◌, ◌++◌, ℕ, List, [], ◌∷◌, ap}
use Rattle.std.proofs.lemmas.Result.{on_ok_weaker}
use Rattle.json.specs.Json.{Members, no_members, member}
use Rattle.json.specs.Token as tokens
use Rattle.serde_json.specs.Written.{outline}
use Rattle.plan_text_pieces.specs.Functions.{frame_function_name, told_data}
use Rattle.plan_text_pieces.proofs.TokenLemmas.{object-begun, member-done}
use Rattle.plan_text_pieces.proofs.functions.write_frame_function.Goals as goal

pub returns-clause-tokens : goal.returns-clause-tokens
unfolding Rattle.plan_text_pieces.specs.Functions.frame_function_data
returns-clause-tokens c =
    let f = c.args.function.now in
    let told : Members = member (frame_function_name f) (outline (told_data f)) no_members in
    let named = c.in-Ok-key.ensures.ok ∙ ap (λ (s : List ℕ). c.begin_object.new.self.tokens ++ tokens.key s ∷ []) c.frame_function_name.ensures in
    on_ok_weaker c.end_object.result (λ ended.
    ended
    ∙ member-done _ _ _ _ (outline (told_data f)) no_members named c.in-Ok-write_told.ensures.tokens
    ∙ object-begun _ _ told c.in-Ok.ensures.ok) c.end_object.ensures.ok
