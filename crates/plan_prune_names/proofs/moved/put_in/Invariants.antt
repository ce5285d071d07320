use Rattle.std.proofs.Common.{◌≡◌, take, Some, None}
use Rattle.plan_core.specs.declared.data_type.DataType.{DataType}
use Rattle.plan_expr.specs.Leaves.{Name}
use Rattle.plan_prune_names.specs.ByName.{at_name, put_on}
use Rattle.plan_prune_names.specs.Known.{IsOver, type_in}
use Rattle.plan_prune_names.proofs.moved.put_in.Given as goal

-- the names up to here have their types, and none of those that have one was a column
abbrev pub invariant-loop-i : goal.invariant-loop-i
invariant-loop-i l = IsOver l.initial.columns l.columns × ((a : Name) → type_in l.columns a ≡ put_on (take l.i l.names) l.types (type_in l.initial.columns) a) × ((a : Name) (d : DataType) → at_name (take l.i l.names) l.types a ≡ Some (Some d) → type_in l.initial.columns a ≡ None)
