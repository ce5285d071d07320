use Rattle.std.proofs.Common.{◌≡◌}
use Rattle.plan_join.specs.Pairs.{passing}
use Rattle.plan_value.specs.Cells.{cells_of}
use Rattle.plan_value.specs.Shown.{frame_of}
use Rattle.plan_join_eval.specs.Compared.{kind_test, sided}
use Rattle.plan_join_eval.proofs.compared.matching_rows.Given as goal

-- those up to here that match
abbrev pub invariant-loop-other : goal.invariant-loop-other
invariant-loop-other l = l.rows ≡ passing (sided l.by_right (kind_test l.ex l.args l.told (cells_of l.left.keys.now) (cells_of l.right.keys.now) (frame_of l.left.table.now) (frame_of l.right.table.now)) l.row) l.other
