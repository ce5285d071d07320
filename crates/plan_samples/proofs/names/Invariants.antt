use Rattle.std.proofs.Common.{◌≡◌, map, take}
use Rattle.plan_samples.proofs.names.Given as goal

abbrev pub invariant-loop-text : goal.invariant-loop-text
invariant-loop-text l = l.names ≡ map (λ t. t.now) (take l.text-index l.texts)
