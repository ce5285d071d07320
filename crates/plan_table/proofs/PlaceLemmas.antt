-- The paths among the keys of tables, with their places.
use Rattle.std.proofs.Common.{◌≡◌, ◌++◌, ◌+◌, ℕ, suc, Bool, true, false, cond, List, [], ◌∷◌, length, Option, None, Some, refl, ap, ap₂, sym, ◌∙◌, append_assoc, arith}
use Rattle.std.specs.Map.{lookup, keys_of}
use Rattle.std.specs.List.{slice_get}
use Rattle.std.specs.Str.{bytes_eq}
use Rattle.std.specs.Option.{option_map}
use Rattle.std.specs.Prelude.{String, string_bytes}
use Rattle.std.specs.String.{string_eq}
use Rattle.std.specs.declared.alloc.Global.{Global}
use Rattle.indexmap.specs.IndexMap.{insert_entry}
use Rattle.plan_table.specs.declared.source_key.SourceKey.{SourceKey}
use Rattle.plan_table.specs.declared.source_key.SourceKey.TheVariants.{Path, Buffer, Frame}
use Rattle.plan_table.specs.declared.table.Table.{Table}
use Rattle.plan_table.specs.Places.{PlaceEntries, places_seen, places_from, noted}
use Rattle.plan_table.specs.Tables.{same_key, table_at}
use Rattle.plan_table.proofs.TableLemmas.{absent-here, absent-below}

abbrev Pairs : Type 0
Pairs = List (SourceKey × Table)

-- the table at a place, if there is one
abbrev pub at_place : Pairs → Option ℕ → Option Table
at_place ts None = None
at_place ts (Some i) = option_map (λ (p : SourceKey × Table). p.1) (slice_get ts i)

-- a text's place is that of its bytes
pub noted-seen : (es : PlaceEntries) (a : List ℕ) → lookup (λ (k : String Global). bytes_eq a (string_bytes k)) es ≡ lookup (bytes_eq a) (places_seen es)
noted-seen [] a = refl
noted-seen (e ∷ es) a = ap (λ (x : Option ℕ). cond (bytes_eq a (string_bytes e.0)) (Some e.1) x) (noted-seen es a)

after : (pre : Pairs) (p : SourceKey × Table) (ts : Pairs) → slice_get (pre ++ p ∷ ts) (length pre) ≡ Some p
after [] p ts = refl
after (q ∷ pre) p ts = after pre p ts

longer : (pre : Pairs) (p : SourceKey × Table) → length (pre ++ p ∷ []) ≡ suc (length pre)
longer [] p = refl
longer (q ∷ pre) p = ap suc (longer pre p)

place-cond : (b : Bool) (whole : Pairs) (i : ℕ) (t : Table) (o : Option Table) (q : Option ℕ) → at_place whole (Some i) ≡ Some t → o ≡ at_place whole q → cond b (Some t) o ≡ at_place whole (cond b (Some i) q)
place-cond true whole i t o q e f = sym e
place-cond false whole i t o q e f = f

-- the table of a path is the one at its place
pub found-path : (a : List ℕ) (pre ts : Pairs) → table_at ts (Path a) ≡ at_place (pre ++ ts) (lookup (bytes_eq a) (places_from (length pre) (keys_of ts)))
found-path a pre [] = refl
found-path a pre (p ∷ ts) =
    let below : table_at ts (Path a) ≡ at_place (pre ++ p ∷ ts) (lookup (bytes_eq a) (places_from (suc (length pre)) (keys_of ts))) =
    found-path a (pre ++ p ∷ []) ts
    ∙ ap₂ (λ (w : Pairs) (i : ℕ). at_place w (lookup (bytes_eq a) (places_from i (keys_of ts)))) (append_assoc pre (p ∷ []) ts) (longer pre p)
    in
    by-key a pre p.0 p.1 ts below
  where
    by-key : (a : List ℕ) (pre : Pairs) (k : SourceKey) (t : Table) (ts : Pairs) → table_at ts (Path a) ≡ at_place (pre ++ (k, t) ∷ ts) (lookup (bytes_eq a) (places_from (suc (length pre)) (keys_of ts))) → table_at ((k, t) ∷ ts) (Path a) ≡ at_place (pre ++ (k, t) ∷ ts) (lookup (bytes_eq a) (places_from (length pre) (k ∷ keys_of ts)))
    by-key a pre (Path b) t ts e =
        place-cond (bytes_eq a b) (pre ++ (Path b, t) ∷ ts) (length pre) t (table_at ts (Path a)) (lookup (bytes_eq a) (places_from (suc (length pre)) (keys_of ts)))
        (ap (option_map (λ (p : SourceKey × Table). p.1)) (after pre (Path b, t) ts)) e
    by-key a pre (Buffer n) t ts e = e
    by-key a pre (Frame n) t ts e = e

-- no place is noted for a path without a table
absent-path : (a : List ℕ) (i : ℕ) (ts : Pairs) → table_at ts (Path a) ≡ None → lookup (bytes_eq a) (places_from i (keys_of ts)) ≡ None
absent-path a i [] h = refl
absent-path a i (p ∷ ts) h = by-key a i p.0 p.1 ts h (absent-path a (suc i) ts (absent-below (same_key (Path a) p.0) p.1 (table_at ts (Path a)) h))
  where
    by-key : (a : List ℕ) (i : ℕ) (k : SourceKey) (t : Table) (ts : Pairs) → table_at ((k, t) ∷ ts) (Path a) ≡ None → lookup (bytes_eq a) (places_from (suc i) (keys_of ts)) ≡ None → lookup (bytes_eq a) (places_from i (k ∷ keys_of ts)) ≡ None
    by-key a i (Path b) t ts h e = ap₂ (λ (x : Bool) (o : Option ℕ). cond x (Some i) o) (absent-here (bytes_eq a b) t (table_at ts (Path a)) h) e
    by-key a i (Buffer n) t ts h e = e
    by-key a i (Frame n) t ts h e = e

-- no place is noted for a key without a table
pub absent-noted : (ts : Pairs) (key : SourceKey) (i : ℕ) → table_at ts key ≡ None → noted key (places_from i (keys_of ts)) ≡ None
absent-noted ts (Path a) i h = absent-path a i ts h
absent-noted ts (Buffer n) i h = refl
absent-noted ts (Frame n) i h = refl

-- one more key stands after the others
pub places-more : (i : ℕ) (ts : Pairs) (p : SourceKey × Table) → places_from i (keys_of (ts ++ p ∷ [])) ≡ places_from i (keys_of ts) ++ places_from (i + length ts) (p.0 ∷ [])
places-more i [] p = ap (λ (n : ℕ). places_from n (p.0 ∷ [])) (omega arith)
places-more i (q ∷ ts) p =
    let rest : places_from (suc i) (keys_of (ts ++ p ∷ [])) ≡ places_from (suc i) (keys_of ts) ++ places_from (i + length (q ∷ ts)) (p.0 ∷ []) =
    places-more (suc i) ts p ∙ ap (λ (n : ℕ). places_from (suc i) (keys_of ts) ++ places_from n (p.0 ∷ [])) (omega arith)
    in
    by-key i q.0 q.1 ts p rest
  where
    by-key : (i : ℕ) (k : SourceKey) (t : Table) (ts : Pairs) (p : SourceKey × Table) → places_from (suc i) (keys_of (ts ++ p ∷ [])) ≡ places_from (suc i) (keys_of ts) ++ places_from (i + length ((k, t) ∷ ts)) (p.0 ∷ []) → places_from i (k ∷ keys_of (ts ++ p ∷ [])) ≡ places_from i (k ∷ keys_of ts) ++ places_from (i + length ((k, t) ∷ ts)) (p.0 ∷ [])
    by-key i (Path a) t ts p e = ap (λ (x : List (List ℕ × ℕ)). (a, i) ∷ x) e
    by-key i (Buffer n) t ts p e = e
    by-key i (Frame n) t ts p e = e

here : (b : Bool) (n : ℕ) (o : Option ℕ) → cond b (Some n) o ≡ None → b ≡ false
here true n o h = cc
here false n o h = refl

below : (b : Bool) (n : ℕ) (o : Option ℕ) → cond b (Some n) o ≡ None → o ≡ None
below true n o h = cc
below false n o h = h

-- a text that is absent goes last
pub noted-last : (es : PlaceEntries) (k : String Global) (n : ℕ) → lookup (bytes_eq (string_bytes k)) (places_seen es) ≡ None → places_seen (insert_entry string_eq es k n) ≡ places_seen es ++ (string_bytes k, n) ∷ []
noted-last [] k n h = refl
noted-last (e ∷ es) k n h =
    ap (λ (b : Bool). places_seen (cond b ((e.0, n) ∷ es) (e ∷ insert_entry string_eq es k n))) (here (bytes_eq (string_bytes k) (string_bytes e.0)) e.1 (lookup (bytes_eq (string_bytes k)) (places_seen es)) h)
    ∙ ap (λ (x : List (List ℕ × ℕ)). (string_bytes e.0, e.1) ∷ x) (noted-last es k n (below (bytes_eq (string_bytes k) (string_bytes e.0)) e.1 (lookup (bytes_eq (string_bytes k)) (places_seen es)) h))

module _ (ts : Pairs) (es : PlaceEntries) (places : places_seen es ≡ places_from 0 (keys_of ts)) (a : List ℕ) where
  -- the table of a path is the one at the place that is noted
  pub path-at : (o : Option ℕ) → o ≡ lookup (λ (k : String Global). bytes_eq a (string_bytes k)) es → table_at ts (Path a) ≡ at_place ts o
  path-at o e =
      found-path a [] ts
      ∙ ap (λ (l : List (List ℕ × ℕ)). at_place ts (lookup (bytes_eq a) l)) (sym places)
      ∙ ap (at_place ts) (sym (e ∙ noted-seen es a))

  pub path-there : (i : ℕ) (p : SourceKey × Table) → Some i ≡ lookup (λ (k : String Global). bytes_eq a (string_bytes k)) es → Some p ≡ slice_get ts i → Some p.1 ≡ table_at ts (Path a)
  path-there i p e there = ap (option_map (λ (q : SourceKey × Table). q.1)) there ∙ sym (path-at (Some i) e)

  pub path-nowhere : (i : ℕ) → Some i ≡ lookup (λ (k : String Global). bytes_eq a (string_bytes k)) es → None ≡ slice_get ts i → None ≡ table_at ts (Path a)
  path-nowhere i e there = ap (option_map (λ (q : SourceKey × Table). q.1)) there ∙ sym (path-at (Some i) e)
