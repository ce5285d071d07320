use Rattle.std.proofs.Common.{◌≡◌, take}
use Rattle.plan_join.specs.Given.{marked}
use Rattle.plan_join.proofs.matches.mark.Given as goal

-- the marks at the places up to here are set
abbrev pub invariant-loop-place : goal.invariant-loop-place
invariant-loop-place l = l.met.items ≡ marked l.initial.met.items (take l.place-index l.places)
