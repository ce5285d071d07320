use Rattle.std.proofs.Common.{◌≡◌, [], replicate}
use Rattle.plan_value.proofs.groups.no_rows.Given as goal

-- so many lists are made
abbrev pub invariant-loop : goal.invariant-loop
invariant-loop l = l.groups.items ≡ replicate l.counter []
