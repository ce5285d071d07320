use Rattle.plan_value.specs.Cells.{cells_of}
use Rattle.plan_value.specs.Shown.{frame_of}
use Rattle.plan_join_eval.specs.Compared.{kind_test, sided, AreLists}
use Rattle.plan_join_eval.proofs.unequal.near_lists.Given as goal

-- the lists of the rows up to here
abbrev pub invariant-loop-row : goal.invariant-loop-row
invariant-loop-row l = AreLists (sided l.by_right (kind_test l.ex l.args l.told (cells_of l.left.keys.now) (cells_of l.right.keys.now) (frame_of l.left.table.now) (frame_of l.right.table.now))) l.row l.others l.lists.items
