-- The keys up to here are copied, and the copies stand in their place.
use Rattle.plan_collapse_laws.specs.CrossKeys.{Crossed}
use Rattle.plan_collapse.specs.KeysAt.{AreOrigins}
use Rattle.plan_collapse.proofs.LongerExprs.{Copied, Copying}
use Rattle.plan_collapse.proofs.copies.right_copies.Given as goal

abbrev pub invariant-loop-key : goal.invariant-loop-key
invariant-loop-key l =
    Copying l.initial.ex l.ex l.keys l.copies l.key-index
    × ((j : Crossed) → AreOrigins j l.origins → Copied j l.initial.ex l.ex l.keys l.copies l.key-index)
