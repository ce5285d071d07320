use Rattle.std.proofs.Common.{◌≡◌, take}
use Rattle.plan_expr.specs.Exprs.{all_named_at}
use Rattle.plan_frame.specs.Orders.{key_cells}
use Rattle.plan_value.specs.Cells.{cells_of}
use Rattle.plan_value.specs.Shown.{frame_of}
use Rattle.plan_value.proofs.keys.key_values.Given as goal

-- the values of the keys up to here
abbrev pub invariant-loop-key : goal.invariant-loop-key
invariant-loop-key l = cells_of l.values ≡ key_cells (all_named_at l.ex (take l.key-index l.keys)) (frame_of l.table)
