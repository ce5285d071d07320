use Rattle.std.proofs.Common.{◌≡◌, ◌++◌}
use Rattle.plan_table.specs.Tables.{types_of}
use Rattle.plan_value.proofs.keys.typed.Given as goal

-- what is put, and then what is left, are all columns
abbrev pub invariant-loop-column : goal.invariant-loop-column
invariant-loop-column l = l.schema ++ types_of l.column-iterator ≡ types_of l.columns
