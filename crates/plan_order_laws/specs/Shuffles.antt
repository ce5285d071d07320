-- Lists with the same items, by exchanges of neighbours.
use Rattle.std.specs.Prelude.{List, [], ◌∷◌}

module _ {X : Type 0} where
  -- one list is the other, with neighbours exchanged
  pub data Shuffled : List X → List X → Type 0 where
    nothing : Shuffled [] []
    under : (x : X) {xs ys : List X} → Shuffled xs ys → Shuffled (x ∷ xs) (x ∷ ys)
    exchange : (x y : X) (zs : List X) → Shuffled (x ∷ y ∷ zs) (y ∷ x ∷ zs)
    step : {xs ys zs : List X} → Shuffled xs ys → Shuffled ys zs → Shuffled xs zs
