-- Some rows of what an expression is over a frame.
use Rattle.std.specs.Prelude.{◌≡◌, ◌<◌, ℕ, List, length}
use Rattle.std.specs.List.{AllByRecursion}
use Rattle.plan_frame.specs.Frames.{Frame, Column, picked}
use Rattle.plan_frame.specs.Meaning.{Cell, one, many}

-- some rows of a cell: one value stays, of many those of the rows are taken
abbrev pub cell_rows : List ℕ → Cell → Cell
cell_rows rows (one v) = one v
cell_rows rows (many vs) = many (picked rows vs)

-- a cell is one value, or one for each of so many rows
abbrev pub IsWide : ℕ → Cell → Type 0
IsWide h (one v) = Unit {0}
IsWide h (many vs) = length vs ≡ h

-- all of some rows are below a height
abbrev pub AreBelow : ℕ → List ℕ → Type 0
AreBelow h rows = AllByRecursion (λ i. i < h) rows

-- each column of a frame is as long as the frame is high
abbrev pub IsEven : Frame → Type 0
IsEven f = AllByRecursion (λ (c : Column). length c.values ≡ f.height) f.columns
