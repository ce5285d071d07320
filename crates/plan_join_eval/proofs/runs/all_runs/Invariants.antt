use Rattle.plan_value.specs.Cells.{cell_of}
use Rattle.plan_join_eval.specs.Runs.{AreRuns}
use Rattle.plan_join_eval.proofs.runs.all_runs.Given as goal

-- the runs from the rows up to here on
abbrev pub invariant-loop-first : goal.invariant-loop-first
invariant-loop-first l = AreRuns l.up (cell_of l.key) l.height l.first l.runs.items
