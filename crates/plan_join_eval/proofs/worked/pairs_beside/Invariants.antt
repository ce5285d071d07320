use Rattle.std.proofs.Common.{◌≡◌}
use Rattle.plan_join_eval.specs.Reads.{all_beside}
use Rattle.plan_join_eval.proofs.worked.pairs_beside.Given as goal

-- the pairs up to here
abbrev pub invariant-loop-other : goal.invariant-loop-other
invariant-loop-other l = l.pairs ≡ all_beside l.by_right l.row l.other
