-- What was split, with the minterms that are left, makes what all make; and there is room for all that are left.
use Rattle.std.proofs.Common.{◌≤◌, drop, length}
use Rattle.plan_collapse_laws.specs.CrossKeys.{Crossed, equality_keys}
use Rattle.plan_collapse.specs.KeysAt.{AreOrigins}
use Rattle.plan_collapse.proofs.Splitting.{Placed, Splitting}
use Rattle.plan_collapse.proofs.split.split_equalities.Given as goal

abbrev pub invariant-loop-minterm : goal.invariant-loop-minterm
invariant-loop-minterm l =
    ((j : Crossed) → AreOrigins j l.origins → Splitting l.ex j (equality_keys j) (length l.minterms) l.minterms l.split (drop l.minterm-index l.minterms))
    × Placed l.ex l.minterms l.split (drop l.minterm-index l.minterms)
    × (length l.split.keys ≤ l.minterm-index)
