-- Frames with their rows in another order.
use Rattle.std.specs.Prelude.{◌≡◌, ℕ, Bool, List, [], ◌∷◌}
use Rattle.std.specs.List.{range_with_len}
use Rattle.std.specs.List.Sorted.{IsPermutation}
use Rattle.plan_core.specs.Columns.{Columns}
use Rattle.plan_options.specs.declared.distinct.UniqueKeepStrategy.{UniqueKeepStrategy}
use Rattle.plan_frame.specs.Frames.{Frame, HasSchema, rows_at}
use Rattle.plan_frame.specs.Orders.{AreKept}

-- a frame has the rows of another, in any order
pub record Reordering (f g : Frame) : Type 0 where
  pub rows : List ℕ
  pub permutes : IsPermutation (range_with_len 0 g.height) rows
  pub is : f ≡ rows_at rows g

-- frames are others, one for one, but the last has its rows in any order
abbrev pub LastLoose : List Frame → List Frame → Type 0
LastLoose (f ∷ []) (g ∷ []) = Reordering f g
LastLoose (f ∷ f' ∷ fs) (g ∷ g' ∷ gs) = (f ≡ g) × LastLoose (f' ∷ fs) (g' ∷ gs)
LastLoose _ _ = ⊥

-- all frames have these columns
abbrev pub AllHave : Columns → List Frame → Type 0
AllHave s [] = Unit {0}
AllHave s (f ∷ fs) = HasSchema f s × AllHave s fs

-- rows that are kept of those that are the same, by their places where that is asked, and are other rows in another order
pub record InOrder (stable : Bool) (keep : UniqueKeepStrategy) (same : ℕ → ℕ → Bool) (h : ℕ) (rows : List ℕ) : Type 0 where
  pub sorted : List ℕ
  pub kept : AreKept stable keep same h sorted
  pub permutes : IsPermutation sorted rows
