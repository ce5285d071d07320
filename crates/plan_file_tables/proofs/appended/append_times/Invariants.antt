use Rattle.std.proofs.Common.{◌≡◌, ◌++◌, replicate}
use Rattle.plan_value.specs.Shown.{value_of, values_of}
use Rattle.plan_file_tables.proofs.appended.append_times.Given as goal

-- the value stands behind, so many times
abbrev pub invariant-loop : goal.invariant-loop
invariant-loop l = values_of l.values ≡ values_of l.initial.values ++ replicate l.counter (value_of l.value)
