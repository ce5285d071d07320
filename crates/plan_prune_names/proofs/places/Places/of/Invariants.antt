use Rattle.std.proofs.Common.{◌≡◌, take}
use Rattle.plan_prune_names.proofs.places.Places.of.Given as goal

-- the names up to here
abbrev pub invariant-loop-i : goal.invariant-loop-i
invariant-loop-i l = l.places ≡ take l.i l.names
