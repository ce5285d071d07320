use Rattle.std.proofs.Common.{◌≡◌, ◌++◌, drop}
use Rattle.plan_rule.specs.TakenUp.{numbers_taken_up}
use Rattle.plan_rule.proofs.flatten.taken_up.Given as goal

abbrev pub invariant-loop-input : goal.invariant-loop-input
invariant-loop-input l = l.taken ++ numbers_taken_up l.lp (drop l.input-index l.inputs) ≡ numbers_taken_up l.lp l.inputs
