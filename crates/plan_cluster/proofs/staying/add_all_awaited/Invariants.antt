use Rattle.std.proofs.Common.{◌≡◌}
use Rattle.plan_expr.specs.Exprs.{all_named_at}
use Rattle.plan_cluster.specs.Found.{found_after}
use Rattle.plan_cluster.proofs.staying.add_all_awaited.Given as goal

-- the names found once so many places were looked at
abbrev pub invariant-loop-place : goal.invariant-loop-place
invariant-loop-place l = l.found ≡ found_after (all_named_at l.ex l.upper) l.lower l.initial.found l.place
