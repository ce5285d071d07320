-- The loop goes on as `walk_on` does, and meets a number at each turn; the room is empty.
use Rattle.std.proofs.Common.{◌≡◌, ◌-◌, [], length}
use Rattle.plan_tree.proofs.WalkLemmas.{Walking}
use Rattle.plan_tree.specs.Stands.{shape}
use Rattle.plan_tree.proofs.walking.walk.Given as goal

abbrev pub invariant-loop-step : goal.invariant-loop-step
invariant-loop-step g l = Walking (shape g.T.Entry.inputs g.T.Entry.bad) l.arena l.fn.roots l.met.keys l.listed l.pending × (l.inputs ≡ [])

abbrev pub decreases-loop-step : goal.decreases-loop-step
decreases-loop-step g l = length l.arena - length l.listed
