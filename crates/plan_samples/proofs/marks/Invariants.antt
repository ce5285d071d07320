use Rattle.std.proofs.Common.{◌≡◌, take}
use Rattle.plan_samples.proofs.marks.Given as goal

abbrev pub invariant-loop-mark : goal.invariant-loop-mark
invariant-loop-mark l = l.marks ≡ take l.mark-index l.given
