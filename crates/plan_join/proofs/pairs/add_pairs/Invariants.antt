use Rattle.std.proofs.Common.{◌≡◌, ◌++◌, take}
use Rattle.plan_join.specs.Given.{pairs_with}
use Rattle.plan_join.proofs.pairs.add_pairs.Given as goal

-- the pairs with the rows up to here are added
abbrev pub invariant-loop-other : goal.invariant-loop-other
invariant-loop-other l = l.pairs ≡ l.initial.pairs ++ pairs_with l.by_right l.row (take l.other-index l.others)
