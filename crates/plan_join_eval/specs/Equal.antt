-- The keys of the rows of two sides as those of one.
use Rattle.std.specs.Prelude.{ℕ, Bool, true, not, ◌&&◌, ◌||◌, List, [], ◌∷◌, ◌++◌, map, Option, None, Some, get_or, length, if◌then◌else◌}
use Rattle.std.specs.List.{range_with_len}
use Rattle.plan_frame.specs.Values.{Value, is_null}
use Rattle.plan_frame.specs.Meaning.{Cell, many, value_at}

-- the values of a cell in so many rows
abbrev pub in_rows : Cell → ℕ → List Value
in_rows c h = map (value_at c) (range_with_len 0 h)

-- the values of a cell in the rows of one side, and behind them those of another in the rows of the other
abbrev pub stacked : ℕ → ℕ → Cell → Cell → Cell
stacked h k c d = many (in_rows c h ++ in_rows d k)

-- so of each of several cells, with the one in its place
abbrev pub stacked_cells : ℕ → ℕ → List Cell → List Cell → List Cell
stacked_cells h k (c ∷ cs) (d ∷ ds) = stacked h k c d ∷ stacked_cells h k cs ds
stacked_cells h k _ _ = []

-- no key is null in a row
abbrev pub none_null : List Cell → ℕ → Bool
none_null [] i = true
none_null (c ∷ cs) i = not (is_null (value_at c i)) && none_null cs i

-- a row may match another: where nulls are equal, or no key is null there
abbrev pub may_match : (nulls : Bool) → List Cell → ℕ → Bool
may_match nulls keys i = nulls || none_null keys i

-- the number of a row, none where it matches no row
abbrev pub number_where : (nulls : Bool) → List Cell → List ℕ → ℕ → Option ℕ
number_where nulls keys numbers i = if may_match nulls keys i then Some (get_or numbers i 0) else None

-- the numbers of rows, none for those that match no row
abbrev pub numbers_where : (nulls : Bool) → List Cell → List ℕ → List (Option ℕ)
numbers_where nulls keys numbers = map (number_where nulls keys numbers) (range_with_len 0 (length numbers))
