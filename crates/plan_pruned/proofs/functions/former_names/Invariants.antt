use Rattle.std.proofs.Common.{◌≡◌, take}
use Rattle.std.specs.List.{filter_map}
use Rattle.plan_core.specs.Columns.{names_of}
use Rattle.plan_meaning.specs.Functions.{former, renamed}
use Rattle.plan_pruned.proofs.functions.former_names.Given as goal

abbrev pub invariant-loop-i : goal.invariant-loop-i
invariant-loop-i l = l.formers ≡ filter_map (former (renamed l.existing l.new) (names_of l.columns)) (take l.i l.names)
