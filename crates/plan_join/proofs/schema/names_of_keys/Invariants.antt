use Rattle.std.proofs.Common.{◌≡◌, take}
use Rattle.plan_core.specs.Names.{has}
use Rattle.plan_expr.specs.Leaves.{Name}
use Rattle.plan_join.specs.Naming.{key_columns}
use Rattle.plan_join.proofs.schema.names_of_keys.Given as goal

-- the names that are there are those of the keys so far
abbrev pub invariant-loop-key : goal.invariant-loop-key
invariant-loop-key l = (a : Name) → has l.names a ≡ has (key_columns l.ex (take l.key-index l.keys)) a
