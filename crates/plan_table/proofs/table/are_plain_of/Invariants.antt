use Rattle.std.proofs.Common.{take}
use Rattle.std.specs.List.{AllByRecursion}
use Rattle.plan_table.specs.Tables.{IsPlainOf}
use Rattle.plan_table.proofs.table.are_plain_of.Given as goal

-- the values up to here are of the type
abbrev pub invariant-loop-value : goal.invariant-loop-value
invariant-loop-value l = AllByRecursion (IsPlainOf l.plain) (take l.value-index l.values)
