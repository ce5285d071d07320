use Rattle.std.proofs.Common.{◌≡◌, ◌++◌, take}
use Rattle.plan_order.proofs.together.add_numbers.Given as goal

-- those up to here are added
abbrev pub invariant-loop-number : goal.invariant-loop-number
invariant-loop-number l = l.numbers ≡ l.initial.numbers ++ take l.number-index l.more
