-- The loop knows trees at the pending steps, which get fewer nodes at each turn; the room is empty.
use Rattle.std.proofs.Common.{◌≡◌, []}
use Rattle.plan_tree.proofs.LevelLemmas.{Deep, left}
use Rattle.plan_tree.specs.Stands.{shape}
use Rattle.plan_tree.proofs.levels.levels_of.Given as goal

abbrev pub invariant-loop-step : goal.invariant-loop-step
invariant-loop-step g l = Deep (shape g.T.Entry.inputs g.T.Entry.bad) l.arena l.fn.roots l.deepest l.pending × (l.inputs ≡ [])

abbrev pub decreases-loop-step : goal.decreases-loop-step
decreases-loop-step g l = left (shape g.T.Entry.inputs g.T.Entry.bad) l.arena l.pending
