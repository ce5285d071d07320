-- What a set with text keys says of the list of names.
use Rattle.std.proofs.Common.{◌≡◌, ℕ, Bool, true, false, ◌||◌, List, [], ◌∷◌, ◌++◌, map, refl, ap, ◌∙◌, if◌then◌else◌}
use Rattle.std.proofs.lemmas.List.{map-append}
use Rattle.std.specs.Str.{bytes_eq}
use Rattle.std.specs.List.{IsDistinct, AllByRecursion, list_any}
use Rattle.std.specs.Prelude.{String, string_bytes}
use Rattle.std.specs.String.{string_eq}
use Rattle.std.specs.declared.alloc.Global.{Global}
use Rattle.indexmap.specs.IndexSet.{insert_key}
use Rattle.plan_core.specs.Names.{has, with_name, AreDistinct}

abbrev pub Keys : Type 0
Keys = List (String Global)

abbrev pub bytes : Keys → List (List ℕ)
bytes ks = map string_bytes ks

pub has-seen : (ks : Keys) (name : List ℕ) → list_any (λ (k : String Global). bytes_eq name (string_bytes k)) ks ≡ has (bytes ks) name
has-seen [] name = refl
has-seen (k ∷ ks) name = ap (λ (b : Bool). bytes_eq name (string_bytes k) || b) (has-seen ks name)

grown : (b : Bool) (ks : Keys) (k : String Global) → bytes (if b then ks else ks ++ k ∷ []) ≡ (if b then bytes ks else bytes ks ++ string_bytes k ∷ [])
grown true ks k = refl
grown false ks k = map-append string_bytes ks (k ∷ [])

pub with-seen : (ks : Keys) (k : String Global) → bytes (insert_key string_eq ks k) ≡ with_name (bytes ks) (string_bytes k)
with-seen ks k = grown (list_any (string_eq k) ks) ks k ∙ ap (λ (b : Bool). if b then bytes ks else bytes ks ++ string_bytes k ∷ []) (has-seen ks (string_bytes k))

others_differ : (k : String Global) (ks : Keys) → AllByRecursion (λ (y : String Global). string_eq k y ≡ false) ks → AllByRecursion (λ (y : List ℕ). bytes_eq (string_bytes k) y ≡ false) (bytes ks)
others_differ k [] h = tt
others_differ k (l ∷ ks) h = (h.0, others_differ k ks h.1)

-- distinct keys are distinct names
pub distinct-seen : (ks : Keys) → IsDistinct string_eq ks → AreDistinct (bytes ks)
unfolding IsDistinct
distinct-seen [] h = tt
distinct-seen (k ∷ ks) h = (others_differ k ks h.0, distinct-seen ks h.1)
