use Rattle.std.proofs.Common.{◌≡◌, drop}
use Rattle.plan_rule.specs.TakenUp.{has_unflattened_node}
use Rattle.plan_rule.proofs.flatten.has_unflattened.Given as goal

abbrev pub invariant-loop-input : goal.invariant-loop-input
invariant-loop-input l = has_unflattened_node l.lp l.inputs ≡ has_unflattened_node l.lp (drop l.input-index l.inputs)
