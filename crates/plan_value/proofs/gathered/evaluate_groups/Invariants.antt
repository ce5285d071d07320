use Rattle.std.proofs.Common.{◌≡◌, List, ℕ, map, take}
use Rattle.plan_expr.specs.Exprs.{expr_at}
use Rattle.plan_frame.specs.Frames.{rows_at}
use Rattle.plan_frame.specs.Grouping.{gathered_expr}
use Rattle.plan_frame.specs.Meaning.{only_value, val}
use Rattle.plan_value.specs.Shown.{frame_of, values_of}
use Rattle.plan_value.proofs.gathered.evaluate_groups.Given as goal

-- the values over the lists of rows up to here
abbrev pub invariant-loop-rows : goal.invariant-loop-rows
invariant-loop-rows l = values_of l.values ≡ map (λ (rows : List ℕ). only_value (val (gathered_expr (expr_at l.ex l.node)) (rows_at rows (frame_of l.table)))) (take l.rows-index l.parts)
