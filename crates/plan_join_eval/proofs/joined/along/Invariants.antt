use Rattle.std.proofs.Common.{◌≡◌, map, take}
use Rattle.plan_value.specs.Shown.{values_of}
use Rattle.plan_join_eval.specs.Along.{value_along}
use Rattle.plan_join_eval.proofs.joined.along.Given as goal

-- the values along the pairs up to here
abbrev pub invariant-loop-pair : goal.invariant-loop-pair
invariant-loop-pair l = values_of l.own ≡ map (value_along l.of_right (values_of l.values) (values_of l.others)) (take l.pair-index l.pairs)
