-- What was split, with the minterms that are left, makes what all make.
use Rattle.std.proofs.Common.{◌≡◌, drop}
use Rattle.plan_collapse_laws.specs.CrossKeys.{Crossed, inequality_keys}
use Rattle.plan_collapse.specs.KeysAt.{AreOrigins}
use Rattle.plan_collapse.proofs.Splitting.{Placed, Splitting}
use Rattle.plan_collapse.proofs.split.split_inequalities.Given as goal

abbrev pub invariant-loop-minterm : goal.invariant-loop-minterm
invariant-loop-minterm l =
    ((j : Crossed) → AreOrigins j l.origins → j.left ≡ l.left → Splitting l.ex j (inequality_keys j) 2 l.minterms l.split (drop l.minterm-index l.minterms))
    × Placed l.ex l.minterms l.split (drop l.minterm-index l.minterms)
