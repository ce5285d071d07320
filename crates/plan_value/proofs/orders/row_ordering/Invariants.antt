use Rattle.std.proofs.Common.{◌≡◌, drop}
use Rattle.plan_frame.specs.Orders.{rows_cmp}
use Rattle.plan_value.specs.Cells.{cells_of}
use Rattle.plan_value.proofs.orders.row_ordering.Given as goal

-- the rows stand by all keys as they do by those that are left
abbrev pub invariant-loop-key : goal.invariant-loop-key
invariant-loop-key l =
    rows_cmp (cells_of l.keys) l.fn.descending l.fn.nulls_last l.left l.right ≡ rows_cmp (cells_of (drop l.key-index l.keys)) l.descending l.nulls_last l.left l.right
