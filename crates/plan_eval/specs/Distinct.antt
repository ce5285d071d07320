-- The columns of some names, and the rows that are kept of parts.
use Rattle.std.specs.Prelude.{ℕ, ◌-◌, List, [], ◌∷◌, length, map, Option, Some, None, slice_get}
use Rattle.std.specs.List.{filter_map}
use Rattle.plan_expr.specs.Leaves.{Name}
use Rattle.plan_frame.specs.Frames.{Frame, column_or}
use Rattle.plan_frame.specs.Meaning.{Cell, many}
use Rattle.plan_options.specs.declared.distinct.UniqueKeepStrategy.{UniqueKeepStrategy}
use Rattle.plan_options.specs.declared.distinct.UniqueKeepStrategy.TheVariants as keeps

-- the columns of these names, each null in each row where there is none
abbrev pub columns_named : Frame → List Name → List Cell
columns_named f names = map (λ (a : Name). many (column_or f a)) names

-- the only one of some rows, where there is one alone
abbrev pub only : List ℕ → Option ℕ
only (i ∷ []) = Some i
only rows = None

-- the row that is kept of those that are the same, if one is: the first, the last, or the only one
abbrev pub kept_of : UniqueKeepStrategy → List ℕ → Option ℕ
kept_of keeps.First rows = slice_get rows 0
kept_of keeps.Last rows = slice_get rows (length rows - 1)
kept_of keeps.None rows = only rows
kept_of keeps.Any rows = slice_get rows 0

-- the rows that are kept of parts, part by part
abbrev pub kept : UniqueKeepStrategy → List (List ℕ) → List ℕ
kept keep parts = filter_map (kept_of keep) parts
