use Rattle.std.proofs.Common.{◌≡◌}
use Rattle.plan_files.specs.FileColumns.{hive_columns, plain_columns}
use Rattle.plan_meaning.specs.Typing.{all_read}
use Rattle.plan_check.proofs.scan_types.all_read.Given as goal

abbrev pub invariant-loop-name : goal.invariant-loop-name
invariant-loop-name l = all_read l.told (plain_columns l.name-iterator (hive_columns l.hive)) ≡ all_read l.told (plain_columns l.reader (hive_columns l.hive))
