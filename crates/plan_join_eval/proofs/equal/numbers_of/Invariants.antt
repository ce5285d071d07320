use Rattle.std.proofs.Common.{◌≡◌, map}
use Rattle.std.specs.List.{range_with_len}
use Rattle.plan_join_eval.specs.Equal.{number_where}
use Rattle.plan_value.specs.Cells.{cells_of}
use Rattle.plan_join_eval.proofs.equal.numbers_of.Given as goal

-- the numbers of the rows up to here
abbrev pub invariant-loop-row : goal.invariant-loop-row
invariant-loop-row l = l.own ≡ map (number_where l.nulls (cells_of l.keys) l.numbers) (range_with_len 0 l.row)
