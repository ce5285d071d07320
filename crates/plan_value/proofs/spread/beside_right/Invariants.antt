use Rattle.std.proofs.Common.{◌≡◌, map, take}
use Rattle.plan_value.specs.Pairs.{paired}
use Rattle.plan_table.specs.declared.value.AnyValue.{AnyValue}
use Rattle.plan_value.specs.Shown.{value_of, values_of}
use Rattle.plan_value.proofs.spread.beside_right.Given as goal

-- what the operator gives for the values up to here
abbrev pub invariant-loop-left : goal.invariant-loop-left
invariant-loop-left l = values_of l.values ≡ map (λ (x : AnyValue). paired l.pairing (value_of x) (value_of l.right)) (take l.left-index l.lefts)
