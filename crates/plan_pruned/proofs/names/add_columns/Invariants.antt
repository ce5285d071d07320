use Rattle.std.proofs.Common.{◌≡◌, take}
use Rattle.plan_core.specs.Columns.{names_of}
use Rattle.plan_core.specs.Names.{with_names}
use Rattle.plan_pruned.proofs.names.add_columns.Given as goal

abbrev pub invariant-loop-i : goal.invariant-loop-i
invariant-loop-i l = l.names ≡ with_names l.initial.names (take l.i (names_of l.columns))
