use Rattle.plan_check.specs.Renamed.{MakeUp}
use Rattle.plan_frame.specs.Reshaped.{renamed_columns}
use Rattle.plan_meaning.specs.Functions.{renamed}
use Rattle.plan_check.proofs.renamed.take_columns.Given as goal

-- what is left has to get the names that are left
abbrev pub invariant-loop-old : goal.invariant-loop-old
invariant-loop-old l = MakeUp l.taken l.columns (renamed l.old-iterator.a.rest.now l.old-iterator.b.rest.now) (renamed_columns (renamed l.existing l.new) l.initial.columns)
