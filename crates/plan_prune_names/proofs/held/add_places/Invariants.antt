use Rattle.std.proofs.Common.{◌≡◌, ◌++◌, take}
use Rattle.plan_core.specs.Columns.{names_of}
use Rattle.plan_prune_names.specs.Places.{places_in}
use Rattle.plan_prune_names.proofs.held.add_places.Given as goal

-- the places of the columns up to here
abbrev pub invariant-loop-i : goal.invariant-loop-i
invariant-loop-i l = l.found.items ≡ l.initial.found.items ++ places_in l.places (names_of (take l.i l.columns.types))
