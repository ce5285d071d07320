use Rattle.std.proofs.Common.{length}
use Rattle.plan_check.specs.Renamed.{put_back}
use Rattle.plan_check.proofs.RenamedLemmas.{ComeTo}
use Rattle.plan_check.proofs.renamed.put_columns.Given as goal

-- what is left to put back comes to the same columns
abbrev pub invariant-loop-column : goal.invariant-loop-column
invariant-loop-column l = ComeTo l.taken l.columns (put_back l.initial.taken l.initial.columns)

abbrev pub decreases-loop-column : goal.decreases-loop-column
decreases-loop-column l = length l.taken
