use Rattle.std.proofs.Common.{All, ◌<◌, ℕ}
use Rattle.plan_value.specs.Cells.{cell_of}
use Rattle.plan_value.specs.Shown.{value_of}
use Rattle.plan_join_eval.specs.Runs.{is_up, IsPassed, IsRunAt}
use Rattle.plan_join_eval.proofs.runs.passed_over.Given as goal

-- so many rows can be passed over
abbrev pub invariant-loop-run : goal.invariant-loop-run
invariant-loop-run l = (height : ℕ) → l.first < height → All (IsRunAt (is_up l.operator l.by_right) (cell_of l.key) l.first height) l.runs → IsPassed l.operator l.by_right (value_of l.own) (cell_of l.key) l.first height l.count
