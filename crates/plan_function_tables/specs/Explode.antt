-- Columns that are taken apart, and the rows that come of this.
use Rattle.std.specs.Prelude.{ℕ, max, List, length, map, fold}
use Rattle.std.specs.List.{flat_map, range_with_len}
use Rattle.std.specs.Borrow.{Bor}
use Rattle.plan_core.specs.Names.{has}
use Rattle.plan_expr.specs.Leaves.{Name}
use Rattle.plan_frame.specs.Frames.{Column, row}
use Rattle.plan_frame.specs.Reshaped.{exploded_values, items}
use Rattle.plan_table.specs.declared.column.Column.{Column as Typed}
use Rattle.plan_value.specs.Shown.{values_of}

-- the columns that are borrowed, in order
abbrev pub borrowed_columns : List (Bor Typed) → List Typed
borrowed_columns cs = map (λ (c : Bor Typed). c.now) cs

-- how many values a column has in its list in a row
abbrev pub items_in : ℕ → Typed → ℕ
items_in i c = length (items (row (values_of c.values) i))

-- how many the longest list in a row has, and at least one
abbrev pub longest : List Typed → ℕ → ℕ
longest cs i = fold max 1 (map (items_in i) cs)

-- so many rows for a row, each with a place in its lists, from the first on
abbrev pub row_places : ℕ → ℕ → List (ℕ × ℕ)
row_places i times = map (λ (j : ℕ). (i, j)) (range_with_len 0 times)

-- the rows that come of so many, where each becomes as many as are told
abbrev pub rows_by : (ℕ → ℕ) → ℕ → List (ℕ × ℕ)
rows_by times h = flat_map (λ (i : ℕ). row_places i (times i)) (range_with_len 0 h)

-- columns over such rows, those of these names taken apart
abbrev pub columns_over : List Name → List (ℕ × ℕ) → List Column → List Column
columns_over names rows cs = map (λ (c : Column). record { name = c.name; values = exploded_values (has names c.name) rows c.values }) cs
