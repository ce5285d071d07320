use Rattle.std.proofs.Common.{length, reverse}
use Rattle.plan_cluster.specs.Looks.{IsUnderway}
use Rattle.plan_cluster.proofs.look.look.Given as goal

abbrev pub decreases-loop-alloc : goal.decreases-loop-alloc
decreases-loop-alloc l = length l.run.items

-- the look is underway
abbrev pub invariant-loop-alloc : goal.invariant-loop-alloc
invariant-loop-alloc l = IsUnderway l.ex l.fn.run.items l.done.items (reverse l.run.items) l.changed
