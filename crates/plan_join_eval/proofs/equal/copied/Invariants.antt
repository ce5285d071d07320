use Rattle.std.proofs.Common.{◌≡◌, take}
use Rattle.plan_join_eval.proofs.equal.copied.Given as goal

-- the numbers up to here
abbrev pub invariant-loop-number : goal.invariant-loop-number
invariant-loop-number l = l.own ≡ take l.number-index l.numbers
