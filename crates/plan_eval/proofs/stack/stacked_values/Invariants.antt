use Rattle.std.proofs.Common.{◌≡◌, take}
use Rattle.plan_frame.specs.Frames.{stacked}
use Rattle.plan_value.specs.Shown.{values_of}
use Rattle.plan_eval.specs.Stacks.{shown_tables}
use Rattle.plan_eval.proofs.stack.stacked_values.Given as goal

-- the values of the tables up to here
abbrev pub invariant-loop-table : goal.invariant-loop-table
invariant-loop-table l = values_of l.values ≡ stacked (shown_tables (take l.table-index l.tables)) l.name
