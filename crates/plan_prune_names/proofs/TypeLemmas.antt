-- What a map says that has the types of columns.
use Rattle.std.proofs.Common.{◌≡◌, Bool, true, false, cond, ◌||◌, ◌+◌, ℕ, zero, suc, add-one, take, List, [], ◌∷◌, Option, Some, None, refl, sym, ap, ap₂, ◌∙◌}
use Rattle.std.specs.Prelude.{String, string_bytes, option_map}
use Rattle.std.specs.List.{slice_get}
use Rattle.std.specs.Cmp.Lexicographic.{nat_list_eq_equiv}
use Rattle.std.specs.Str.{bytes_eq}
use Rattle.std.specs.String.{string_eq}
use Rattle.std.specs.declared.alloc.Global.{Global}
use Rattle.std.proofs.lemmas.Map.Text.{hash_map_updates_text}
use Rattle.std.proofs.lemmas.Option.{slice_get-map}
use Rattle.indexmap.specs.IndexMap.{IndexMap, UpdatesBy}
use Rattle.plan_core.specs.declared.data_type.DataType.{DataType}
use Rattle.plan_core.specs.Columns.{Columns, names_of, type_of}
use Rattle.plan_core.proofs.ColumnLemmas.{Entries, seen, type_of-seen}
use Rattle.plan_core.specs.Names.{has}
use Rattle.plan_expr.specs.Leaves.{Name}
use Rattle.plan_frame.proofs.NameSets.{named}

-- of a name that is put in, or taken out, the new type is found, and else what was
pub type-set : {S : Type 0} (m n : IndexMap (String Global) DataType S) (name : Name) (d : Option DataType) → UpdatesBy string_eq (λ (k : String Global). bytes_eq name (string_bytes k)) m n d → (a : Name) → type_of (seen n.entries) a ≡ cond (bytes_eq a name) d (type_of (seen m.entries) a)
type-set m n name d h a =
    sym (type_of-seen n.entries a)
    ∙ hash_map_updates_text name m n d h a
    ∙ ap₂ (λ (t : Bool) (o : Option DataType). cond t d o) (nat_list_eq_equiv.symm name a) (type_of-seen m.entries a)

-- the name at a place of a map's entries
pub name-seen : (es : Entries) (i : ℕ) (k : String Global) (d : DataType) → Some (k, d) ≡ slice_get es i → slice_get (names_of (seen es)) i ≡ Some (string_bytes k)
name-seen es i k d e =
    slice_get-map (λ (c : Name × DataType). c.0) (seen es) i
    ∙ ap (option_map (λ (c : Name × DataType). c.0)) (slice_get-map (λ (p : String Global × DataType). (string_bytes p.0, p.1)) es i)
    ∙ ap (λ (o : Option (String Global × DataType)). option_map (λ (c : Name × DataType). c.0) (option_map (λ (p : String Global × DataType). (string_bytes p.0, p.1)) o)) (sym e)

-- the types of columns up to a place, with the one at it
pub type-next : (s : Columns) (i : ℕ) (n : Name) (d : DataType) → slice_get s i ≡ Some (n, d) → has (names_of (take i s)) n ≡ false → (a : Name) → type_of (take (i + 1) s) a ≡ cond (bytes_eq a n) (Some d) (type_of (take i s) a)
type-next s i n d e fresh a = ap (λ (k : ℕ). type_of (take k s) a) (add-one i) ∙ go s i e fresh
  where
    turn : (t u : Bool) (c : DataType) (o : Option DataType) → (t ≡ true → u ≡ true → ⊥) → cond u (Some c) (cond t (Some d) o) ≡ cond t (Some d) (cond u (Some c) o)
    turn true true c o q = absurd (q refl refl)
    turn true false c o q = refl
    turn false true c o q = refl
    turn false false c o q = refl

    head : (b : Name) (names : List Name) → has (b ∷ names) n ≡ false → (bytes_eq n b ≡ false) × (has names n ≡ false)
    head b names q = at (bytes_eq n b) q
      where
        at : (t : Bool) → (t || has names n) ≡ false → (t ≡ false) × (has names n ≡ false)
        at true r = cc
        at false r = (refl, r)

    go : (xs : Columns) (j : ℕ) → slice_get xs j ≡ Some (n, d) → has (names_of (take j xs)) n ≡ false → type_of (take (suc j) xs) a ≡ cond (bytes_eq a n) (Some d) (type_of (take j xs) a)
    go [] j q f = cc
    go (x ∷ xs) zero q f =
        let same : x ≡ (n, d) = cc in
        ap (λ (c : Name × DataType). cond (bytes_eq a c.0) (Some c.1) None) same
    go (x ∷ xs) (suc j) q f =
        let parts = head x.0 (names_of (take j xs)) f in
        ap (λ (o : Option DataType). cond (bytes_eq a x.0) (Some x.1) o) (go xs j q parts.1)
        ∙ turn (bytes_eq a n) (bytes_eq a x.0) x.1 (type_of (take j xs) a)
        (λ y z.
        let same : bytes_eq n x.0 ≡ true = ap (λ (b : Name). bytes_eq b x.0) (sym (named a n y)) ∙ z in
        let not : bytes_eq n x.0 ≡ false = parts.0 in
        cc)
