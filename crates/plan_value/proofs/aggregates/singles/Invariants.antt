use Rattle.std.proofs.Common.{◌≡◌, map, take}
use Rattle.plan_frame.specs.Aggregates.{single}
use Rattle.plan_table.specs.declared.value.AnyValue.{AnyValue}
use Rattle.plan_value.specs.Shown.{single_of, value_of}
use Rattle.plan_value.proofs.aggregates.singles.Given as goal

-- the values up to here as they stand in a list
abbrev pub invariant-loop-value : goal.invariant-loop-value
invariant-loop-value l = map single_of l.singles ≡ map (λ (v : AnyValue). single (value_of v)) (take l.value-index l.values)
