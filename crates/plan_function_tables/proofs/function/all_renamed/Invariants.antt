use Rattle.std.proofs.Common.{◌≡◌, ◌++◌, map}
use Rattle.plan_meaning.specs.Functions.{names_now}
use Rattle.plan_function_tables.specs.Function.{under}
use Rattle.plan_function_tables.proofs.function.all_renamed.Given as goal

-- what is made, and then what is left under other names, are all columns under other names
abbrev pub invariant-loop-column : goal.invariant-loop-column
invariant-loop-column l = l.made ++ map (under (names_now l.names)) l.column-iterator ≡ map (under (names_now l.names)) l.fn.columns
