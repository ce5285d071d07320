-- The text that a writer gives for the tokens of a value.
use Rattle.std.proofs.Common.{◌≡◌, ℕ, ◌+◌, List, [], ◌∷◌, ◌++◌, map, drop, get_or, Some, sym, ap, ap₂, ◌∙◌, append_assoc}
use Rattle.std.specs.Prelude.{slice_get}
use Rattle.std.proofs.lemmas.List.{drop_more}
use Rattle.std.proofs.lemmas.Option.{get_or_from_slice_get, slice_get_within}
use Rattle.json.specs.Token.{Token}
use Rattle.json.specs.Print.{print}
use Rattle.json.specs.Tree.{json_tokens, items_tokens}
use Rattle.serde_json.specs.Data.{Data}
use Rattle.serde_json.specs.View.{items_of}
use Rattle.serde_json.specs.Written.{compact_text, outline, items_outline}
use Rattle.serde_json.proofs.Texts.{print-outline}

-- a writer that began with nothing and was given the tokens of a value gives its text
pub printed : (d : Data) (before text : List ℕ) (tokens : List Token) → text ≡ before ++ print tokens → before ≡ [] → tokens ≡ json_tokens (outline d) → text ≡ compact_text d
printed d before text tokens is none all = is ∙ ap₂ (λ (x y : List ℕ). x ++ y) none (ap print all ∙ print-outline d)

-- an item more is written, and fewer are left
pub next_item : {A : Type 0} (f : A → Data) (xs : List A) (i : ℕ) (x : A) (written now all : List Token) → slice_get xs i ≡ Some x
    → written ++ items_tokens (items_outline (items_of (map f (drop i xs)))) ≡ all → now ≡ written ++ json_tokens (outline (f x))
    → now ++ items_tokens (items_outline (items_of (map f (drop (i + 1) xs)))) ≡ all
next_item f xs i x written now all here before is =
    let same : get_or xs i x ≡ x = get_or_from_slice_get xs i x x here in
    let first : drop i xs ≡ x ∷ drop (i + 1) xs = drop_more xs i x (slice_get_within xs i x here) ∙ ap (λ (y : _). y ∷ drop (i + 1) xs) same in
    ap (λ l. l ++ items_tokens (items_outline (items_of (map f (drop (i + 1) xs))))) is
    ∙ append_assoc written (json_tokens (outline (f x))) (items_tokens (items_outline (items_of (map f (drop (i + 1) xs)))))
    ∙ ap (λ left. written ++ items_tokens (items_outline (items_of (map f left)))) (sym first)
    ∙ before
