use Rattle.std.proofs.Common.{◌≡◌, ◌++◌}
use Rattle.plan_core.specs.Columns.{names_of}
use Rattle.plan_files.specs.FileColumns.{hive_columns, plain_columns}
use Rattle.plan_files.proofs.hive.plain_names.Given as goal

abbrev pub invariant-loop-name : goal.invariant-loop-name
invariant-loop-name l = l.names ++ names_of (plain_columns l.name-iterator (hive_columns l.hive)) ≡ names_of (plain_columns l.reader (hive_columns l.hive))
