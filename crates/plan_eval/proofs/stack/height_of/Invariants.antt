use Rattle.std.proofs.Common.{◌≡◌, take}
use Rattle.plan_frame.specs.Frames.{total_height}
use Rattle.plan_eval.specs.Stacks.{shown_tables}
use Rattle.plan_eval.proofs.stack.height_of.Given as goal

-- the heights of the tables up to here
abbrev pub invariant-loop-table : goal.invariant-loop-table
invariant-loop-table l = l.height ≡ total_height (shown_tables (take l.table-index l.tables))
