-- Objects, and what stands under their keys.
use Rattle.std.specs.Prelude.{ℕ, ◌&&◌, ◌==◌, List, [], ◌∷◌, length, Bool, true, Option, Some, None, option_map, is_some, if◌then◌else◌}
use Rattle.serde_json.specs.Data.{Data}
use Rattle.serde_json.specs.Events.{members_len}
use Rattle.serde_json.specs.Find.{get, as_object}
use Rattle.plan_doc_parts.specs.Parts.{◌>>=◌}

-- each of these keys is there
abbrev pub has_keys : List (List ℕ) → Data → Bool
has_keys [] d = true
has_keys (k ∷ ks) d = is_some (get k d) && has_keys ks d

-- how many members an object has
abbrev pub count_of : Data → Option ℕ
count_of d = option_map members_len (as_object d)

-- an object with as many members as there are keys, and each of the keys
unfoldable pub object_of : List (List ℕ) → Data → Option Data
object_of ks d = do
  n ← count_of d
  if n == length ks then (if has_keys ks d then Some d else None) else None

-- what f reads of the value under a key
unfoldable pub at : {A : Type 0} → List ℕ → (Data → Option A) → Data → Option A
at k f o = do
  d ← get k o
  f d

-- what stands under the one key of an object
unfoldable pub only_of : List ℕ → Data → Option Data
only_of k d = do
  o ← object_of (k ∷ []) d
  get k o
