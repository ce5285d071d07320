use Rattle.std.proofs.Common.{◌≡◌, ◌++◌, ◌∷◌}
use Rattle.plan_function_tables.proofs.function.behind.Given as goal

-- what is made, and then what is left, are the columns behind the first one
abbrev pub invariant-loop-column : goal.invariant-loop-column
invariant-loop-column l = l.made ++ l.column-iterator ≡ l.fn.first ∷ l.fn.columns
