use Rattle.std.proofs.Common.{◌≡◌, ◌++◌}
use Rattle.plan_table.proofs.columns.ColumnsTryClone.try_clone.Given as goal

-- what is copied, and then what is left, are the columns
abbrev pub invariant-loop-column : goal.invariant-loop-column
invariant-loop-column l = l.copy ++ l.column-iterator ≡ l.self
