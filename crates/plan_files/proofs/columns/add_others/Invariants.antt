use Rattle.std.proofs.Common.{◌≡◌}
use Rattle.plan_files.specs.FileColumns.{lacking, with_all}
use Rattle.plan_files.proofs.columns.add_others.Given as goal

abbrev pub invariant-loop-name : goal.invariant-loop-name
invariant-loop-name l = with_all l.columns (lacking l.reader l.name-iterator) ≡ with_all l.initial.columns (lacking l.reader l.hive)
