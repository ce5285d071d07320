use Rattle.std.proofs.Common.{take}
use Rattle.plan_expr.specs.Leaves.{Name}
use Rattle.plan_frame.specs.Frames.{found, picked_columns}
use Rattle.plan_value.specs.Shown.{columns_shown}
use Rattle.plan_value.proofs.ReadLemmas.{Reads}
use Rattle.plan_value.proofs.rows.rows_of_columns.Given as goal

-- the columns of the names up to here
abbrev pub invariant-loop-name : goal.invariant-loop-name
invariant-loop-name l = Reads (λ (a : Name). found (picked_columns l.rows (columns_shown l.table.columns)) a) (columns_shown l.columns) (take l.name-index l.names)
