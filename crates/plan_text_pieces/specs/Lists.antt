-- The members of objects, by lists of keys with values.
use Rattle.std.specs.Prelude.{ℕ, Bool, true, ◌&&◌, List, [], ◌∷◌}
use Rattle.std.specs.Ordering.{nat_cmp, is_lt}
use Rattle.std.specs.Cmp.Lexicographic.{slice_cmp}
use Rattle.serde_json.specs.Data.{Data, Members, no_members, member}

-- each key comes after the one before it
abbrev pub are_ascending : List (List ℕ) → Bool
are_ascending [] = true
are_ascending (k ∷ []) = true
are_ascending (k ∷ l ∷ ks) = is_lt (slice_cmp nat_cmp k l) && are_ascending (l ∷ ks)

-- each key with its value
abbrev pub members_from : List (List ℕ × Data) → Members
members_from [] = no_members
members_from (e ∷ es) = member e.0 e.1 (members_from es)
