use Rattle.std.proofs.Common.{◌≡◌, ◌≤◌, ◌+◌, length, ℕ}
use Rattle.plan_expr.specs.Leaves.{Name}
use Rattle.plan_prune_names.specs.Known.{type_at}
use Rattle.plan_prune_names.proofs.known_columns.KnownColumns.undo.Given as goal

-- so many changes are left, and what was before these stays
abbrev pub invariant-loop : goal.invariant-loop
invariant-loop l =
    (length l.self.changes.items + l.counter ≡ length l.initial.self.changes.items + l.initial.counter)
    × ((m : ℕ) (a : Name) → m ≤ l.count → type_at l.self m a ≡ type_at l.initial.self m a)
    × (l.self.marks.items ≡ l.initial.self.marks.items)
    × (l.self.is_known ≡ l.initial.self.is_known)
