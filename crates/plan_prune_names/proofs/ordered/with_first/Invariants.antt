use Rattle.std.proofs.Common.{◌≡◌, ◌∷◌, take}
use Rattle.plan_prune_names.proofs.ordered.with_first.Given as goal

-- the name, and the others up to here
abbrev pub invariant-loop-other : goal.invariant-loop-other
invariant-loop-other l = l.more ≡ l.name ∷ take l.other-index l.names
