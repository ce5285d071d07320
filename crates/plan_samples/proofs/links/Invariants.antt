use Rattle.std.proofs.Common.{◌≡◌, map, take}
use Rattle.plan_core.specs.declared.arena.Node.{Node}
use Rattle.plan_samples.proofs.links.Given as goal

abbrev pub invariant-loop-number : goal.invariant-loop-number
invariant-loop-number l = map (λ (n : Node). n.0) l.links ≡ take l.number-index l.numbers
