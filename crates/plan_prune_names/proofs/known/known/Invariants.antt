use Rattle.std.proofs.Common.{◌≡◌, is_some, take}
use Rattle.std.specs.List.{filter}
use Rattle.plan_expr.specs.Leaves.{Name}
use Rattle.plan_prune_names.specs.Known.{type_in}
use Rattle.plan_prune_names.proofs.known.known.Given as goal

-- the names up to here that are columns
abbrev pub invariant-loop-i : goal.invariant-loop-i
invariant-loop-i l = l.known ≡ filter (λ (a : Name). is_some (type_in l.columns a)) (take l.i l.names)
