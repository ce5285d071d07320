use Rattle.std.proofs.Common.{◌≡◌, take}
use Rattle.plan_pruned.specs.Pruned.{typed_names}
use Rattle.plan_pruned.proofs.columns.typed_columns.Given as goal

abbrev pub invariant-loop-i : goal.invariant-loop-i
invariant-loop-i l = l.columns ≡ typed_names l.schema (take l.i l.names)
