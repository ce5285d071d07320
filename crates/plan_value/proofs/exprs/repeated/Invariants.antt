use Rattle.std.proofs.Common.{◌≡◌, replicate}
use Rattle.plan_value.specs.Shown.{value_of, values_of}
use Rattle.plan_value.proofs.exprs.repeated.Given as goal

-- so many values are made
abbrev pub invariant-loop : goal.invariant-loop
invariant-loop l = values_of l.values ≡ replicate l.counter (value_of l.value)
