-- The first so many items stay the same while the last is dropped.
use Rattle.std.proofs.Common.{◌≡◌, length, take}
use Rattle.plan_ir.proofs.split.keep_first.Given as goal

abbrev pub invariant-loop-items : goal.invariant-loop-items
invariant-loop-items g l = take l.count l.items ≡ take l.count l.initial.items

abbrev pub decreases-loop-items : goal.decreases-loop-items
decreases-loop-items g l = length l.items
