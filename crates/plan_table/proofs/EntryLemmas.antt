-- What a map of columns by their names says of the list of columns.
use Rattle.std.proofs.Common.{◌≡◌, ℕ, Bool, true, false, cond, List, [], ◌∷◌, map, Option, Some, refl, ap, sym, ◌∙◌}
use Rattle.std.specs.Str.{bytes_eq}
use Rattle.std.specs.Map.{lookup, keys_of}
use Rattle.std.specs.List.{IsDistinct, AllByRecursion}
use Rattle.std.proofs.lemmas.Slice.Eq.{bytes_eq-Decides}
use Rattle.std.specs.Prelude.{String, string_bytes}
use Rattle.std.specs.String.{string_eq}
use Rattle.std.specs.declared.alloc.Global.{Global}
use Rattle.indexmap.specs.IndexMap.{insert_entry}
use Rattle.plan_core.specs.Columns.{HasDistinctNames}
use Rattle.plan_table.specs.declared.column.Column.{Column}
use Rattle.plan_table.specs.Entries.{Entries, seen, IsNamed}
use Rattle.plan_table.specs.Tables.{column_of, types_of, with_column}

-- a look-up by name finds the column of that name
pub column_of-seen : (es : Entries) (name : List ℕ) → AllByRecursion IsNamed es → lookup (λ (k : String Global). bytes_eq name (string_bytes k)) es ≡ column_of (seen es) name
column_of-seen [] name h = refl
column_of-seen (e ∷ es) name h =
    ap (λ (a : List ℕ). cond (bytes_eq name a) (Some e.1) (lookup (λ (k : String Global). bytes_eq name (string_bytes k)) es)) h.0
    ∙ ap (λ (x : Option Column). cond (bytes_eq name e.1.name) (Some e.1) x) (column_of-seen es name h.1)

names_differ : (a : List ℕ) (k : String Global) (es : Entries) → string_bytes k ≡ a → AllByRecursion (λ (y : String Global). string_eq k y ≡ false) (keys_of es) → AllByRecursion IsNamed es → AllByRecursion (λ (y : List ℕ). bytes_eq a y ≡ false) (map (λ (c : List ℕ × _). c.0) (types_of (seen es)))
names_differ a k [] is h n = tt
names_differ a k (e ∷ es) is h n = (ap (λ (x : List ℕ). bytes_eq x e.1.name) (sym is) ∙ ap (bytes_eq (string_bytes k)) (sym n.0) ∙ h.0, names_differ a k es is h.1 n.1)

-- the names of the columns are as distinct as the keys
pub distinct-seen : (es : Entries) → IsDistinct string_eq (keys_of es) → AllByRecursion IsNamed es → HasDistinctNames (types_of (seen es))
unfolding IsDistinct
distinct-seen [] h n = tt
distinct-seen (e ∷ es) h n = (names_differ e.1.name e.0 es n.0 h.0 n.1, distinct-seen es h.1 n.1)

seen_cond : (b : Bool) (xs ys : Entries) → seen (cond b xs ys) ≡ cond b (seen xs) (seen ys)
seen_cond true xs ys = refl
seen_cond false xs ys = refl

-- a column that is put under its name stands in the place of the one of its name, or last
pub with_column-seen : (es : Entries) (k : String Global) (c : Column) → string_bytes k ≡ c.name → AllByRecursion IsNamed es → seen (insert_entry string_eq es k c) ≡ with_column (seen es) c
with_column-seen [] k c is h = refl
with_column-seen (e ∷ es) k c is h =
    let b : Bool = bytes_eq (string_bytes k) (string_bytes e.0) in
    seen_cond b ((e.0, c) ∷ es) (e ∷ insert_entry string_eq es k c)
    ∙ ap (λ (x : List Column). cond b (c ∷ seen es) (e.1 ∷ x)) (with_column-seen es k c is h.1)
    ∙ ap (λ (x : Bool). cond x (c ∷ seen es) (e.1 ∷ with_column (seen es) c)) (ap (λ (a : List ℕ). bytes_eq a (string_bytes e.0)) is ∙ ap (bytes_eq c.name) h.0)

named-cond : (b : Bool) (e : String Global × Column) (es fs : Entries) (k : String Global) (c : Column) → string_bytes k ≡ c.name → bytes_eq (string_bytes k) (string_bytes e.0) ≡ b → AllByRecursion IsNamed (e ∷ es) → AllByRecursion IsNamed fs → AllByRecursion IsNamed (cond b ((e.0, c) ∷ es) (e ∷ fs))
named-cond true e es fs k c is q h n = (sym ((bytes_eq-Decides (string_bytes k) (string_bytes e.0)).0 q) ∙ is, h.1)
named-cond false e es fs k c is q h n = (h.0, n)

-- each column still stands under its name
pub named-inserted : (es : Entries) (k : String Global) (c : Column) → string_bytes k ≡ c.name → AllByRecursion IsNamed es → AllByRecursion IsNamed (insert_entry string_eq es k c)
named-inserted [] k c is h = (is, tt)
named-inserted (e ∷ es) k c is h = named-cond (bytes_eq (string_bytes k) (string_bytes e.0)) e es (insert_entry string_eq es k c) k c is refl h (named-inserted es k c is h.1)
