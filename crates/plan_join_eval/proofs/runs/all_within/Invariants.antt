use Rattle.std.proofs.Common.{◌≡◌, ◌<◌, ◌≤◌, ℕ, true}
use Rattle.plan_frame.specs.Meaning.{value_at}
use Rattle.plan_value.specs.Cells.{cell_of}
use Rattle.plan_value.specs.Shown.{value_of}
use Rattle.plan_join_eval.specs.Runs.{is_within}
use Rattle.plan_join_eval.proofs.runs.all_within.Given as goal

-- the values up to here lie within the bound
abbrev pub invariant-loop-row : goal.invariant-loop-row
invariant-loop-row l = (i : ℕ) → l.first ≤ i → i < l.row → is_within l.up (value_of l.bound) (value_at (cell_of l.key) i) ≡ true
