use Rattle.std.proofs.Common.{◌≡◌, take, []}
use Rattle.plan_core.specs.Columns.{type_of}
use Rattle.plan_expr.specs.Leaves.{Name}
use Rattle.plan_prune_names.specs.Known.{type_in}
use Rattle.plan_prune_names.proofs.known_columns.KnownColumns.restart.Given as goal

-- the columns up to here are there
abbrev pub invariant-loop-i : goal.invariant-loop-i
invariant-loop-i l =
    ((a : Name) → type_in l.self a ≡ type_of (take l.i l.stored) a)
    × (l.self.changes.items ≡ [])
    × (l.self.marks.items ≡ [])
