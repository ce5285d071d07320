use Rattle.std.proofs.Common.{◌≡◌}
use Rattle.std.specs.List.{range_with_len}
use Rattle.plan_eval.proofs.sort.row_numbers.Given as goal

-- the numbers up to here
abbrev pub invariant-loop-row : goal.invariant-loop-row
invariant-loop-row l = l.rows.items ≡ range_with_len 0 l.row
