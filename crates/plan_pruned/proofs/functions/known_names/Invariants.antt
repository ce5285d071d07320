use Rattle.std.proofs.Common.{◌≡◌, take}
use Rattle.std.specs.List.{filter}
use Rattle.plan_core.specs.Columns.{names_of}
use Rattle.plan_core.specs.Names.{has}
use Rattle.plan_pruned.proofs.functions.known_names.Given as goal

abbrev pub invariant-loop-i : goal.invariant-loop-i
invariant-loop-i l = l.known ≡ filter (has (names_of l.columns)) (take l.i l.names)
