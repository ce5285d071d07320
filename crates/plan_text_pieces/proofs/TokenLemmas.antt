-- The tokens of objects, written member by member.
use Rattle.std.proofs.Common.{◌≡◌, ℕ, List, [], ◌∷◌, ◌++◌, ap, ◌∙◌, append_assoc}
use Rattle.json.specs.Json.{Json, Members, member, object}
use Rattle.json.specs.Tree.{json_tokens, members_tokens}
use Rattle.json.specs.Token.{Token}
use Rattle.json.specs.Token as tokens

-- an opening bracket, and then what is left of the object
pub object-begun : (before now : List Token) (ms : Members) → now ≡ before ++ tokens.begin_object ∷ [] → now ++ members_tokens ms ≡ before ++ json_tokens (object ms)
object-begun before now ms e = ap (λ (t : List Token). t ++ members_tokens ms) e ∙ append_assoc before (tokens.begin_object ∷ []) (members_tokens ms)

-- a key with its value, and then what is left of the object
pub member-done : (before keyed now : List Token) (k : List ℕ) (j : Json) (ms : Members) → keyed ≡ before ++ tokens.key k ∷ [] → now ≡ keyed ++ json_tokens j → now ++ members_tokens ms ≡ before ++ members_tokens (member k j ms)
member-done before keyed now k j ms e f =
    ap (λ (t : List Token). t ++ members_tokens ms) (f ∙ ap (λ (t : List Token). t ++ json_tokens j) e)
    ∙ append_assoc (before ++ tokens.key k ∷ []) (json_tokens j) (members_tokens ms)
    ∙ append_assoc before (tokens.key k ∷ []) (json_tokens j ++ members_tokens ms)

-- a key with its value in one step, and then what is left of the object
pub member-put : (before now : List Token) (k : List ℕ) (j : Json) (ms : Members) → now ≡ before ++ tokens.key k ∷ json_tokens j → now ++ members_tokens ms ≡ before ++ members_tokens (member k j ms)
member-put before now k j ms e =
    ap (λ (t : List Token). t ++ members_tokens ms) e ∙ append_assoc before (tokens.key k ∷ json_tokens j) (members_tokens ms)
