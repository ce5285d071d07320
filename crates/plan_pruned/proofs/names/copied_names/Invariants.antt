use Rattle.std.proofs.Common.{◌≡◌, take}
use Rattle.plan_pruned.proofs.names.copied_names.Given as goal

abbrev pub invariant-loop-i : goal.invariant-loop-i
invariant-loop-i l = l.copy ≡ take l.i l.names
