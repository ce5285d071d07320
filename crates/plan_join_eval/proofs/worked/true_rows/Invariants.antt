use Rattle.std.proofs.Common.{◌≡◌}
use Rattle.plan_frame.specs.Meaning.{value_at}
use Rattle.plan_frame.specs.Values.{is_true}
use Rattle.plan_join.specs.Pairs.{passing}
use Rattle.plan_value.specs.Cells.{cell_of}
use Rattle.plan_join_eval.proofs.worked.true_rows.Given as goal

-- the true rows up to here
abbrev pub invariant-loop-row : goal.invariant-loop-row
invariant-loop-row l = l.rows ≡ passing (λ i. is_true (value_at (cell_of l.values) i)) l.row
