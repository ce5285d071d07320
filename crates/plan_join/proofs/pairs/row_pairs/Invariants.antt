use Rattle.std.proofs.Common.{◌≡◌}
use Rattle.std.specs.List.{flat_map, range_with_len}
use Rattle.plan_join.specs.Given.{row_given}
use Rattle.plan_join.specs.Rows.{matches_of}
use Rattle.plan_join.proofs.pairs.row_pairs.Given as goal

-- what is given of the rows up to here is there
abbrev pub invariant-loop-row : goal.invariant-loop-row
invariant-loop-row l = l.pairs ≡ flat_map (λ i. row_given l.by_right l.how i (matches_of l.matches i)) (range_with_len 0 l.row)
