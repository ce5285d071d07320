-- Which sources have tables, and where among them the paths stand.
use Rattle.std.specs.Prelude.{◌≡◌, ℕ, suc, List, [], ◌∷◌, map, Option, None, String, string_bytes}
use Rattle.std.specs.Map.{lookup, keys_of}
use Rattle.std.specs.Str.{bytes_eq}
use Rattle.std.specs.declared.alloc.Global.{Global}
use Rattle.plan_table.specs.declared.source_key.SourceKey.{SourceKey}
use Rattle.plan_table.specs.declared.source_key.SourceKey.TheVariants.{Path, Buffer, Frame}
use Rattle.plan_table.specs.declared.table.Table.{Table}
use Rattle.plan_table.specs.Tables.{AreTables}

-- places by texts
abbrev pub PlaceEntries : Type 0
PlaceEntries = List (String Global × ℕ)

-- the texts by their bytes, with their places
abbrev pub places_seen : PlaceEntries → List (List ℕ × ℕ)
places_seen es = map (λ (p : String Global × ℕ). (string_bytes p.0, p.1)) es

-- the paths among keys with their places, of which the first is told
abbrev pub places_from : ℕ → List SourceKey → List (List ℕ × ℕ)
places_from i [] = []
places_from i (Path a ∷ keys) = (a, i) ∷ places_from (suc i) keys
places_from i (Buffer n ∷ keys) = places_from (suc i) keys
places_from i (Frame n ∷ keys) = places_from (suc i) keys

-- the place that is noted for a key; none for one that is no path
abbrev pub noted : SourceKey → List (List ℕ × ℕ) → Option ℕ
noted (Path a) places = lookup (bytes_eq a) places
noted (Buffer n) places = None
noted (Frame n) places = None

-- tables are well formed, no source twice, and each path is noted at its place
pub record AreNoted (ts : List (SourceKey × Table)) (paths : PlaceEntries) : Type 0 where
  pub tables : AreTables ts
  pub places : places_seen paths ≡ places_from 0 (keys_of ts)
