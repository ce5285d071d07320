use Rattle.std.proofs.Common.{◌≡◌, take}
use Rattle.plan_pruned.specs.Pruned.{names_alike}
use Rattle.plan_prune_steps.proofs.union.asks.Given as goal

-- each input up to here is asked the names
abbrev pub invariant-loop : goal.invariant-loop
invariant-loop l = l.lists ≡ names_alike l.asked (take l.index l.inputs)
