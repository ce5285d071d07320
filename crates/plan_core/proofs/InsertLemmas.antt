-- A new entry that is put at a place of a map.
use Rattle.std.proofs.Common.{◌≡◌, ◌∙◌, ℕ, List, [], ◌∷◌, ◌++◌, length, Option, Some, None, refl, ap, insert, remove, slice_get}
use Rattle.std.specs.Prelude.{String, string_bytes}
use Rattle.std.specs.List.{position_or_len}
use Rattle.std.specs.Map.{keys_of}
use Rattle.std.specs.Option.{option_map_or}
use Rattle.std.specs.String.{string_eq}
use Rattle.std.specs.declared.alloc.Global.{Global}
use Rattle.indexmap.specs.IndexMap.{IndexMap, ContainsKey, insert_entry, move_index}
use Rattle.indexmap.proofs.MapLemmas.{absent_from_lookup, insert_entry-absent, or_len-absent}
use Rattle.indexmap.proofs.SetLemmas.{map-insert}
use Rattle.plan_core.specs.declared.data_type.DataType.{DataType}
use Rattle.plan_core.specs.Columns.{type_of}
use Rattle.plan_core.proofs.ColumnLemmas.{Entries, seen, type_of-seen}

module _ {X : Type 0} where
  slice_get-last : (xs : List X) (x : X) → slice_get (xs ++ x ∷ []) (length xs) ≡ Some x
  slice_get-last [] x = refl
  slice_get-last (y ∷ ys) x = slice_get-last ys x

  remove-last : (xs : List X) (x : X) → remove (xs ++ x ∷ []) (length xs) ≡ xs
  remove-last [] x = refl
  remove-last (y ∷ ys) x = ap (λ (l : List X). y ∷ l) (remove-last ys x)

  -- the last item goes to the place
  move_index-last : (xs : List X) (x : X) (i : ℕ) → move_index (xs ++ x ∷ []) (length xs) i ≡ insert xs i x
  move_index-last xs x i =
      ap (λ (o : Option X). option_map_or (λ (y : X). insert (remove (xs ++ x ∷ []) (length xs)) i y) o (xs ++ x ∷ [])) (slice_get-last xs x)
      ∙ ap (λ (l : List X). insert l i x) (remove-last xs x)

-- a key that is absent goes to the place
pub insert-seen : (es : Entries) (k : String Global) (d : DataType) (i : ℕ) → type_of (seen es) (string_bytes k) ≡ None → seen (move_index (insert_entry string_eq es k d) (position_or_len (string_eq k) (keys_of es)) i) ≡ insert (seen es) i (string_bytes k, d)
insert-seen es k d i h =
    let absent = absent_from_lookup (string_eq k) es (type_of-seen es (string_bytes k) ∙ h) in
    (λ j. seen (move_index (insert_entry-absent string_eq k d es absent j) (or_len-absent (string_eq k) es absent j) i))
    ∙ ap seen (move_index-last es (k, d) i)
    ∙ map-insert (λ (p : String Global × DataType). (string_bytes p.0, p.1)) es i (k, d)

-- a key whose name has no type is no key of the map
pub not_contained : {S : Type 0} (m : IndexMap (String Global) DataType S) (k : String Global) → type_of (seen m.entries) (string_bytes k) ≡ None → ContainsKey string_eq m k → ⊥
not_contained m k h there = let e = type_of-seen m.entries (string_bytes k) ∙ h in let g = rw e at there in cc
