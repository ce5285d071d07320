use Rattle.std.proofs.Common.{◌≡◌, ◌++◌}
use Rattle.plan_core.specs.Columns.{names_of}
use Rattle.plan_copy.proofs.reading.column_names.Given as goal

abbrev pub invariant-loop-name : goal.invariant-loop-name
invariant-loop-name l = l.names ++ names_of l.name-iterator ≡ names_of l.schema
