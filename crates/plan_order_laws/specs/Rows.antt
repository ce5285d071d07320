-- Rows of a frame that are picked by their numbers, and rows that are picked of these.
use Rattle.std.specs.Prelude.{◌≡◌, ℕ, zero, suc, ◌<◌, List, [], ◌∷◌, length, map}
use Rattle.std.specs.List.{AllByRecursion, range_with_len}
use Rattle.std.specs.List.Sorted.{IsPermutation}
use Rattle.plan_expr.specs.Leaves.{Name}
use Rattle.plan_frame.specs.Frames.{Frame, column_or, picked}
use Rattle.plan_frame.specs.Meaning.{Cell, one, many}

-- the number in a place
abbrev pub nth : List ℕ → ℕ → ℕ
nth [] i = 0
nth (p ∷ ps) zero = p
nth (p ∷ ps) (suc i) = nth ps i

-- all numbers are below a height
abbrev pub Below : ℕ → List ℕ → Type 0
Below h rows = AllByRecursion (λ i. i < h) rows

-- the places in a list of what stands in another, in its order
pub record Placed (xs ys : List ℕ) : Type 0 where
  pub places : List ℕ
  pub permutes : IsPermutation (range_with_len 0 (length xs)) places
  pub is : ys ≡ map (nth xs) places

-- the place of a number in a list
pub record PlaceOf (ps : List ℕ) (k : ℕ) : Type 0 where
  pub place : ℕ
  pub below : place < length ps
  pub is : nth ps place ≡ k

-- a cell in some rows
abbrev pub rows_cell : List ℕ → Cell → Cell
rows_cell ps (one v) = one v
rows_cell ps (many vs) = many (picked ps vs)

-- a cell has one value, or as many as a frame has rows
abbrev pub IsLevelCell : ℕ → Cell → Type 0
IsLevelCell h (one v) = Unit {0}
IsLevelCell h (many vs) = length vs ≡ h

-- each column has as many values as a frame has rows
abbrev pub IsLevel : Frame → Type 0
IsLevel f = (a : Name) → length (column_or f a) ≡ f.height
