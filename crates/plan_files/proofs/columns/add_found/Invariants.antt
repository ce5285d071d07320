use Rattle.std.proofs.Common.{◌≡◌, map}
use Rattle.plan_files.specs.FileColumns.{found_column, hive_columns, with_all}
use Rattle.plan_files.proofs.columns.add_found.Given as goal

abbrev pub invariant-loop-name : goal.invariant-loop-name
invariant-loop-name l = with_all l.columns (map (found_column (hive_columns l.hive)) l.name-iterator) ≡ with_all l.initial.columns (map (found_column (hive_columns l.hive)) l.reader)
