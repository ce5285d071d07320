-- The loop knows trees at the pending steps, which get fewer nodes at each turn, and has met no level below the limit; the
-- room is empty.
use Rattle.std.proofs.Common.{◌≡◌, ◌≤◌, ℕ, []}
use Rattle.plan_tree.proofs.LevelLemmas.{Deep, left}
use Rattle.plan_tree.specs.Stands.{shape}
use Rattle.plan_tree.proofs.deeper.is_deeper.Given as goal

abbrev pub invariant-loop-step : goal.invariant-loop-step
invariant-loop-step g l = (deepest : ℕ) × (deepest ≤ l.fn.limit) × Deep (shape g.T.Entry.inputs g.T.Entry.bad) l.arena l.fn.roots deepest l.pending × (l.inputs ≡ [])

abbrev pub decreases-loop-step : goal.decreases-loop-step
decreases-loop-step g l = left (shape g.T.Entry.inputs g.T.Entry.bad) l.arena l.pending
