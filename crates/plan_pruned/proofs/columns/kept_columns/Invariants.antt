use Rattle.std.proofs.Common.{◌≡◌, take}
use Rattle.std.specs.List.{filter}
use Rattle.plan_core.specs.Names.{has}
use Rattle.plan_pruned.proofs.columns.kept_columns.Given as goal

abbrev pub invariant-loop-i : goal.invariant-loop-i
invariant-loop-i l = l.kept ≡ filter (λ c. has l.asked c.0) (take l.i l.columns)
