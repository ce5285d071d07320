use Rattle.std.proofs.Common.{is_some}
use Rattle.plan_expr.specs.Leaves.{Name}
use Rattle.plan_prune_names.specs.Known.{type_in}
use Rattle.plan_prune_names.proofs.PlaceSteps.{UpTo}
use Rattle.plan_prune_names.proofs.held.known_at_places.Given as goal

-- the names that are columns, up to a place behind those that were looked at
abbrev pub invariant-loop-place : goal.invariant-loop-place
invariant-loop-place l = UpTo (λ (a : Name). is_some (type_in l.columns a)) l.names l.found l.known l.place-index
