use Rattle.std.proofs.Common.{◌≡◌}
use Rattle.plan_frame.specs.Rows.{true_rows}
use Rattle.plan_value.specs.Cells.{cell_of}
use Rattle.plan_eval.proofs.filter.true_rows.Given as goal

-- the true rows up to here
abbrev pub invariant-loop-row : goal.invariant-loop-row
invariant-loop-row l = l.rows ≡ true_rows (cell_of l.values) l.row
