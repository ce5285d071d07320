use Rattle.std.proofs.Common.{◌≡◌, true, take}
use Rattle.plan_core.specs.Columns.{type_of}
use Rattle.plan_core.specs.Names.{has}
use Rattle.plan_expr.specs.Leaves.{Name}
use Rattle.plan_prune_names.specs.Known.{type_in}
use Rattle.plan_prune_names.proofs.replaced.add_named.Given as goal

-- the columns up to here are there, with their types, and what had its type still has it
abbrev pub invariant-loop-name : goal.invariant-loop-name
invariant-loop-name l =
    ((a : Name) → has (take l.name-index l.names) a ≡ true → type_of l.part a ≡ type_in l.columns a)
    × ((a : Name) → type_of l.initial.part a ≡ type_in l.columns a → type_of l.part a ≡ type_in l.columns a)
