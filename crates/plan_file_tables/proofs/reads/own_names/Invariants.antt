use Rattle.std.proofs.Common.{◌≡◌, take}
use Rattle.plan_files.specs.FileColumns.{hive_columns}
use Rattle.plan_files.specs.FileReads.{own_names}
use Rattle.plan_file_tables.proofs.reads.own_names.Given as goal

abbrev pub invariant-loop-name : goal.invariant-loop-name
invariant-loop-name l = l.names ≡ own_names (take l.name-index l.asked) (hive_columns l.hive) l.options
