use Rattle.std.proofs.Common.{◌≡◌, take, true}
use Rattle.std.specs.List.{list_all}
use Rattle.plan_files.specs.FileReads.{is_counted}
use Rattle.plan_file_tables.proofs.names.all_counted.Given as goal

abbrev pub invariant-loop-name : goal.invariant-loop-name
invariant-loop-name l = list_all (is_counted l.options) (take l.name-index l.names) ≡ true
