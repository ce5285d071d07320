use Rattle.std.proofs.Common.{◌≡◌, map, take}
use Rattle.plan_table.specs.declared.value.AnyValue.{AnyValue}
use Rattle.plan_value.specs.Pairs.{in_row}
use Rattle.plan_value.specs.Shown.{value_of, values_of}
use Rattle.plan_value.proofs.functions.in_rows.Given as goal

-- what the function makes of the values up to here
abbrev pub invariant-loop-value : goal.invariant-loop-value
invariant-loop-value l = values_of l.made ≡ map (λ (v : AnyValue). in_row l.function (value_of v)) (take l.value-index l.values)
