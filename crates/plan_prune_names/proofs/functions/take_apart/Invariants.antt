use Rattle.std.proofs.Common.{◌≡◌, take}
use Rattle.plan_expr.specs.Leaves.{Name}
use Rattle.plan_prune_names.specs.ByName.{with_items}
use Rattle.plan_prune_names.specs.Known.{IsOver, type_in}
use Rattle.plan_prune_names.proofs.functions.take_apart.Given as goal

-- the lists up to here are taken apart
abbrev pub invariant-loop-name : goal.invariant-loop-name
invariant-loop-name l = IsOver l.initial.columns l.columns × ((a : Name) → type_in l.columns a ≡ with_items (take l.name-index l.names) (type_in l.initial.columns) a)
