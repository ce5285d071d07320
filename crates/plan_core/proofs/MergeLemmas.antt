-- Columns that get types one after another.
use Rattle.std.proofs.Common.{◌≡◌, ◌∙◌, ℕ, Bool, true, false, List, [], ◌∷◌, refl, ap}
use Rattle.std.specs.Str.{bytes_eq}
use Rattle.std.specs.List.{IsDistinct, AllByRecursion}
use Rattle.std.specs.String.{string_eq}
use Rattle.indexmap.specs.IndexMap.{insert_all, insert_entry}
use Rattle.plan_core.specs.declared.data_type.DataType.{DataType}
use Rattle.plan_core.specs.Columns.{Columns, HasDistinctNames, names_of, with_type, with_types}
use Rattle.plan_core.proofs.ColumnLemmas.{Entries, seen, with_type-seen, flip_false}

-- the entries of one map after another
pub with_types-seen : (es fs : Entries) → seen (insert_all string_eq es fs) ≡ with_types (seen es) (seen fs)
with_types-seen es [] = refl
with_types-seen es (f ∷ fs) =
    with_types-seen (insert_entry string_eq es f.0 f.1) fs ∙ ap (λ (x : Columns). with_types x (seen fs)) (with_type-seen es f.0 f.1)

others_differ : (x : List ℕ) (cs : Columns) (name : List ℕ) (d : DataType) → bytes_eq x name ≡ false → AllByRecursion (λ (y : List ℕ). bytes_eq x y ≡ false) (names_of cs) → AllByRecursion (λ (y : List ℕ). bytes_eq x y ≡ false) (names_of (with_type cs name d))
others_differ x [] name d e h = (e, tt)
others_differ x (c ∷ cs) name d e h = go (others_differ x cs name d e h.1) (bytes_eq name c.0) refl
  where
    go : AllByRecursion (λ (y : List ℕ). bytes_eq x y ≡ false) (names_of (with_type cs name d)) → (b : Bool) → bytes_eq name c.0 ≡ b → AllByRecursion (λ (y : List ℕ). bytes_eq x y ≡ false) (names_of (with_type (c ∷ cs) name d))
    go rest true q = rw q (h.0, h.1)
    go rest false q = rw q (h.0, rest)

-- names stay distinct
pub HasDistinctNames-with_type : (cs : Columns) (name : List ℕ) (d : DataType) → HasDistinctNames cs → HasDistinctNames (with_type cs name d)
unfolding IsDistinct
HasDistinctNames-with_type [] name d h = (tt, tt)
HasDistinctNames-with_type (c ∷ cs) name d h = go (HasDistinctNames-with_type cs name d h.1) (bytes_eq name c.0) refl
  where
    go : HasDistinctNames (with_type cs name d) → (b : Bool) → bytes_eq name c.0 ≡ b → HasDistinctNames (with_type (c ∷ cs) name d)
    go rest true q = rw q h
    go rest false q = rw q (others_differ c.0 cs name d (flip_false name c.0 q) h.0, rest)

pub HasDistinctNames-with_types : (cs ds : Columns) → HasDistinctNames cs → HasDistinctNames (with_types cs ds)
HasDistinctNames-with_types cs [] h = h
HasDistinctNames-with_types cs (d ∷ ds) h = HasDistinctNames-with_types (with_type cs d.0 d.1) ds (HasDistinctNames-with_type cs d.0 d.1 h)

-- the map that has taken the entries of another
pub merged-seen : (es fs new : Entries) → new ≡ insert_all string_eq es fs → seen new ≡ with_types (seen es) (seen fs)
merged-seen es fs new e = ap seen e ∙ with_types-seen es fs

pub merged-distinct : (es fs new : Entries) → new ≡ insert_all string_eq es fs → HasDistinctNames (seen es) → HasDistinctNames (seen new)
merged-distinct es fs new e h = rw (merged-seen es fs new e) (HasDistinctNames-with_types (seen es) (seen fs) h)
