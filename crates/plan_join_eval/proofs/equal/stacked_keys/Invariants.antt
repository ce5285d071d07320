use Rattle.std.proofs.Common.{◌≡◌, ◌++◌}
use Rattle.plan_join_eval.specs.Equal.{stacked_cells}
use Rattle.plan_value.specs.Cells.{cells_of}
use Rattle.plan_join_eval.proofs.equal.stacked_keys.Given as goal

-- the keys that are stacked, and then those that are left, are all
abbrev pub invariant-loop-key : goal.invariant-loop-key
invariant-loop-key l = cells_of l.keys ++ stacked_cells l.height l.other (cells_of l.key-iterator.a.rest.now) (cells_of l.key-iterator.b.rest.now) ≡ stacked_cells l.height l.other (cells_of l.first) (cells_of l.second)
