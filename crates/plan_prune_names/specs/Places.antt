-- Where names stand in a list.
use Rattle.std.specs.Prelude.{ℕ, List}
use Rattle.std.specs.List.{filter_map, position}
use Rattle.std.specs.Str.{bytes_eq}
use Rattle.plan_expr.specs.Leaves.{Name}

-- the places of those of some names that stand in a list
abbrev pub places_in : (list names : List Name) → List ℕ
places_in list names = filter_map (λ (a : Name). position (bytes_eq a) list) names
