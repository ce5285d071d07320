-- Frames that are stacked.
use Rattle.std.specs.Prelude.{List, ◌+◌, ◌++◌, map}
use Rattle.std.specs.Borrow.{Bor}
use Rattle.plan_frame.specs.Frames.{Column, Frame, column_or}
use Rattle.plan_table.specs.declared.table.Table.{Table}
use Rattle.plan_value.specs.Shown.{frame_of}

-- the frames that borrowed tables are, in order
abbrev pub shown_tables : List (Bor Table) → List Frame
shown_tables ts = map (λ (t : Bor Table). frame_of t.now) ts

-- a column with those of its name in a frame behind its values, or null for each row there
abbrev pub lengthened : Frame → Column → Column
lengthened g c = record { name = c.name; values = c.values ++ column_or g c.name }

-- a frame with the rows of another below its own
abbrev pub with_below : Frame → Frame → Frame
with_below f g = record { height = f.height + g.height; columns = map (lengthened g) f.columns }
