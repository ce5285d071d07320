-- What a map with text keys says of the list of names and types.
use Rattle.std.proofs.Common.{◌≡◌, ℕ, Bool, true, false, cond, List, [], ◌∷◌, ◌++◌, map, Option, Some, refl, ap, sym, ◌∙◌}
use Rattle.std.specs.Str.{bytes_eq}
use Rattle.std.specs.Map.{lookup, remove_entry, keys_of}
use Rattle.std.specs.List.{IsDistinct, AllByRecursion}
use Rattle.std.proofs.lemmas.Slice.Eq.{bytes_eq-Decides}
use Rattle.std.specs.Prelude.{String, string_bytes}
use Rattle.std.specs.String.{string_eq}
use Rattle.std.specs.declared.alloc.Global.{Global}
use Rattle.indexmap.specs.IndexMap.{insert_entry}
use Rattle.plan_core.specs.declared.data_type.DataType.{DataType}
use Rattle.plan_core.specs.Columns.{Columns, HasDistinctNames, type_of, with_type, without}

abbrev pub Entries : Type 0
Entries = List (String Global × DataType)

abbrev pub seen : Entries → Columns
seen es = map (λ (p : String Global × DataType). (string_bytes p.0, p.1)) es

seen_cond : (b : Bool) (xs ys : Entries) → seen (cond b xs ys) ≡ cond b (seen xs) (seen ys)
seen_cond true xs ys = refl
seen_cond false xs ys = refl

pub type_of-seen : (es : Entries) (name : List ℕ) → lookup (λ (k : String Global). bytes_eq name (string_bytes k)) es ≡ type_of (seen es) name
type_of-seen [] name = refl
type_of-seen (e ∷ es) name = ap (λ (x : Option DataType). cond (bytes_eq name (string_bytes e.0)) (Some e.1) x) (type_of-seen es name)

pub without-seen : (es : Entries) (name : List ℕ) → seen (remove_entry (λ (k : String Global). bytes_eq name (string_bytes k)) es) ≡ without (seen es) name
without-seen [] name = refl
without-seen (e ∷ es) name =
    let b : Bool = bytes_eq name (string_bytes e.0) in
    seen_cond b es (e ∷ remove_entry (λ (k : String Global). bytes_eq name (string_bytes k)) es) ∙ ap (λ (x : Columns). cond b (seen es) ((string_bytes e.0, e.1) ∷ x)) (without-seen es name)

pub with_type-seen : (es : Entries) (k : String Global) (d : DataType) → seen (insert_entry string_eq es k d) ≡ with_type (seen es) (string_bytes k) d
with_type-seen [] k d = refl
with_type-seen (e ∷ es) k d =
    let b : Bool = bytes_eq (string_bytes k) (string_bytes e.0) in
    seen_cond b ((e.0, d) ∷ es) (e ∷ insert_entry string_eq es k d) ∙ ap (λ (x : Columns). cond b ((string_bytes e.0, d) ∷ seen es) ((string_bytes e.0, e.1) ∷ x)) (with_type-seen es k d)

names_differ : (k : String Global) (es : Entries) → AllByRecursion (λ (y : String Global). string_eq k y ≡ false) (keys_of es) → AllByRecursion (λ (y : List ℕ). bytes_eq (string_bytes k) y ≡ false) (map (λ (c : List ℕ × DataType). c.0) (seen es))
names_differ k [] h = tt
names_differ k (e ∷ es) h = (h.0, names_differ k es h.1)

-- the keys of the map are distinct names
pub HasDistinctNames-seen : (es : Entries) → IsDistinct string_eq (keys_of es) → HasDistinctNames (seen es)
unfolding IsDistinct
HasDistinctNames-seen [] h = tt
HasDistinctNames-seen (e ∷ es) h = (names_differ e.0 es h.0, HasDistinctNames-seen es h.1)

-- a name that none of the columns has goes last
pub with_type-last : (cs : Columns) (name : List ℕ) (d : DataType) → AllByRecursion (λ (y : List ℕ). bytes_eq name y ≡ false) (map (λ (c : List ℕ × DataType). c.0) cs) → with_type cs name d ≡ cs ++ (name, d) ∷ []
with_type-last [] name d h = refl
with_type-last (c ∷ cs) name d h = rw h.0 (ap (λ (x : Columns). c ∷ x) (with_type-last cs name d h.1))

pub flip_false : (x y : List ℕ) → bytes_eq x y ≡ false → bytes_eq y x ≡ false
flip_false x y h = go (bytes_eq y x) refl
  where
    go : (b : Bool) → bytes_eq y x ≡ b → b ≡ false
    go false e = refl
    go true e = let q : y ≡ x = (bytes_eq-Decides y x).0 e in let u : bytes_eq x y ≡ true = (bytes_eq-Decides x y).1 (sym q) in cc

-- no names are distinct
pub HasDistinctNames-none : HasDistinctNames []
unfolding IsDistinct
HasDistinctNames-none = tt
