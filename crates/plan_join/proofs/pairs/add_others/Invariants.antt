use Rattle.std.proofs.Common.{◌≡◌, ◌++◌, not, map, length, Some, None}
use Rattle.plan_join.specs.Pairs.{passing}
use Rattle.plan_join.specs.Given.{as_pair, gives_alone, is_met}
use Rattle.plan_join.proofs.pairs.add_others.Given as goal

-- the rows up to here that are given alone are added
abbrev pub invariant-loop-other : goal.invariant-loop-other
invariant-loop-other l = l.pairs ≡ l.initial.pairs ++ map (λ j. as_pair l.by_right None (Some j)) (passing (λ j. gives_alone (not l.by_right) l.how (is_met l.matches (length l.matches.numbers) j)) l.other)
