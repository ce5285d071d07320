use Rattle.std.proofs.Common.{◌≡◌, map, take}
use Rattle.plan_expr.specs.Leaves.{Name}
use Rattle.plan_prune_names.specs.ByName.{left_of}
use Rattle.plan_prune_names.specs.Known.{IsOver, type_in}
use Rattle.plan_prune_names.proofs.moved.take_out.Given as goal

-- the columns up to here are gone, and their types are told
abbrev pub invariant-loop-name : goal.invariant-loop-name
invariant-loop-name l = IsOver l.initial.columns l.columns × (l.types.items ≡ map (type_in l.initial.columns) (take l.name-index l.names)) × ((a : Name) → type_in l.columns a ≡ left_of (take l.name-index l.names) (type_in l.initial.columns) a)
