use Rattle.std.proofs.Common.{◌≡◌, map, take}
use Rattle.plan_value.specs.Pairs.{paired}
use Rattle.plan_table.specs.declared.value.AnyValue.{AnyValue}
use Rattle.plan_value.specs.Shown.{value_of, values_of}
use Rattle.plan_value.proofs.spread.beside_left.Given as goal

-- what the operator gives for the values up to here
abbrev pub invariant-loop-right : goal.invariant-loop-right
invariant-loop-right l = values_of l.values ≡ map (λ (y : AnyValue). paired l.pairing (value_of l.left) (value_of y)) (take l.right-index l.rights)
