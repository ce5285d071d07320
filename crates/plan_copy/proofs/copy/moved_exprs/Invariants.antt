use Rattle.std.proofs.Common.{◌≡◌, map, take}
use Rattle.plan_ir.specs.Moved.{entries_at, moved_expr}
use Rattle.plan_copy.proofs.copy.moved_exprs.Given as goal

abbrev pub invariant-loop-node : goal.invariant-loop-node
invariant-loop-node l = l.copies ≡ map (moved_expr l.exprs) (entries_at l.ex (take l.node-index l.listed))
