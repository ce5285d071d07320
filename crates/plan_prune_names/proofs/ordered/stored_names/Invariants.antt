use Rattle.std.proofs.Common.{◌≡◌, take}
use Rattle.plan_core.specs.Columns.{names_of}
use Rattle.plan_prune_names.proofs.ordered.stored_names.Given as goal

-- the names up to here
abbrev pub invariant-loop-i : goal.invariant-loop-i
invariant-loop-i l = l.names ≡ names_of (take l.i l.columns)
