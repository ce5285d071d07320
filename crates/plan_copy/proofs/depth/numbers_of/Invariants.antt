use Rattle.std.proofs.Common.{◌≡◌, take}
use Rattle.plan_tree.specs.Walk.{nodes_of}
use Rattle.plan_copy.proofs.depth.numbers_of.Given as goal

abbrev pub invariant-loop-step : goal.invariant-loop-step
invariant-loop-step l = l.numbers ≡ nodes_of (take l.step-index l.steps)
