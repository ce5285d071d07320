-- Places of right columns that fill left ones.
use Rattle.std.specs.Prelude.{◌≡◌, ◌<◌, ℕ, List, [], length, Option, None, get_or, option_and_then}
use Rattle.plan_core.specs.Columns.{Columns, names_of, place_of}
use Rattle.plan_expr.specs.Leaves.{Name}

-- for each column there is the place of its partner among others, if it has one that is there
pub record ArePartners (left right : Columns) (partner : Name → Option Name) (places : List (Option ℕ)) : Type 0 where
  pub long : length places ≡ length left
  pub each : (i : ℕ) → i < length left → get_or places i None ≡ option_and_then (place_of right) (partner (get_or (names_of left) i []))
