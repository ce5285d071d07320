use Rattle.std.proofs.Common.{◌≡◌, take}
use Rattle.plan_core.specs.Columns.{type_of}
use Rattle.plan_expr.specs.Leaves.{Name}
use Rattle.plan_prune_names.specs.Known.{IsOver, type_in}
use Rattle.plan_prune_names.proofs.replaced.put_all.Given as goal

-- the columns up to here are there
abbrev pub invariant-loop-i : goal.invariant-loop-i
invariant-loop-i l = IsOver l.initial.columns l.columns × ((a : Name) → type_in l.columns a ≡ type_of (take l.i l.made) a)
