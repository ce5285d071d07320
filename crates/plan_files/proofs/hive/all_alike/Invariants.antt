use Rattle.std.proofs.Common.{◌≡◌, ◌&&◌, take, true}
use Rattle.std.specs.List.{list_all}
use Rattle.plan_core.specs.Columns.{same_columns}
use Rattle.plan_scan.specs.Stats.{Stats, columns_of}
use Rattle.plan_files.specs.HiveParts.{are_typed}
use Rattle.plan_files.proofs.hive.all_alike.Given as goal

abbrev pub invariant-loop-part : goal.invariant-loop-part
invariant-loop-part l = list_all (λ (part : Stats). same_columns l.columns (columns_of part) && are_typed part) (take l.part-index l.parts) ≡ true
