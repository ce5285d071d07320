-- Which rows of a frame are taken: those for which an expression is true, and those of a slice.
use Rattle.std.specs.Prelude.{ℕ, ℤ, pos, negsuc, ◌+ℤ◌, ◌-◌, min, List}
use Rattle.std.specs.List.{range_with_len}
use Rattle.plan_expr.specs.Exprs.{Expr}
use Rattle.plan_frame.specs.Values.{is_true}
use Rattle.plan_frame.specs.Frames.{Frame, rows_at}
use Rattle.plan_frame.specs.Meaning.{Cell, val, value_at, places_from}

-- the rows below a height in which a cell is true
abbrev pub true_rows : Cell → ℕ → List ℕ
true_rows c h = places_from (λ i. is_true (value_at c i)) 0 h

-- the rows of a frame for which an expression is true
abbrev pub filtered : Expr → Frame → Frame
filtered e f = rows_at (true_rows (val e f) f.height) f

-- the place at an offset, which below zero counts from the end
abbrev pub start_of : ℤ → ℕ → ℤ
start_of (pos n) h = pos n
start_of (negsuc n) h = pos h +ℤ negsuc n

-- a place cut to 0 and the height
abbrev pub cut_to : ℕ → ℤ → ℕ
cut_to h (pos n) = min n h
cut_to h (negsuc n) = 0

-- the rows from a start to so many rows after it, both cut to the height
abbrev pub rows_between : ℕ → ℤ → ℕ → List ℕ
rows_between h start len =
    let first = cut_to h start in
    range_with_len first (cut_to h (start +ℤ pos len) - first)

-- the rows of a slice of so many rows
abbrev pub slice_rows : ℤ → ℕ → ℕ → List ℕ
slice_rows offset len h = rows_between h (start_of offset h) len
