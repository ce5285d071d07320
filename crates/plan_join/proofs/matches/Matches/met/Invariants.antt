use Rattle.std.proofs.Common.{◌≡◌, map}
use Rattle.std.specs.List.{range_with_len}
use Rattle.plan_join.specs.Given.{is_met}
use Rattle.plan_join.proofs.matches.Matches.met.Given as goal

-- the rows that match one of those up to here are marked
abbrev pub invariant-loop-row : goal.invariant-loop-row
invariant-loop-row l = l.met.items ≡ map (is_met l.self l.row) (range_with_len 0 l.self.others)
