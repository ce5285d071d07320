use Rattle.std.proofs.Common.{◌≡◌, None, replicate}
use Rattle.plan_join_eval.proofs.fills.no_places.Given as goal

-- so many places are made
abbrev pub invariant-loop : goal.invariant-loop
invariant-loop l = l.places.items ≡ replicate l.counter None
