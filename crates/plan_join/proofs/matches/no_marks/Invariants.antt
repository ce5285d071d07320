use Rattle.std.proofs.Common.{◌≡◌, false, replicate}
use Rattle.plan_join.proofs.matches.no_marks.Given as goal

-- so many marks are made
abbrev pub invariant-loop : goal.invariant-loop
invariant-loop l = l.met.items ≡ replicate l.counter false
