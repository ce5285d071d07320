use Rattle.std.proofs.Common.{◌≡◌, take}
use Rattle.std.specs.List.{filter_map}
use Rattle.plan_core.specs.Columns.{Columns, names_of}
use Rattle.plan_meaning.specs.Functions.{former, renamed}
use Rattle.plan_prune_names.specs.Known.{Shows}
use Rattle.plan_prune_names.proofs.renaming.old_names.Given as goal

-- the columns that have the names up to here
abbrev pub invariant-loop-i : goal.invariant-loop-i
invariant-loop-i l = (s : Columns) → Shows l.columns s → l.names ≡ filter_map (former (renamed l.existing l.new) (names_of s)) (take l.i l.asked)
