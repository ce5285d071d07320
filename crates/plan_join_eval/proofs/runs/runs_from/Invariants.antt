use Rattle.std.proofs.Common.{All}
use Rattle.plan_value.specs.Cells.{cell_of}
use Rattle.plan_join_eval.specs.Runs.{IsRunAt}
use Rattle.plan_join_eval.proofs.runs.runs_from.Given as goal

-- each run up to here is one
abbrev pub invariant-loop : goal.invariant-loop
invariant-loop l = All (IsRunAt l.up (cell_of l.key) l.first l.height) l.runs
