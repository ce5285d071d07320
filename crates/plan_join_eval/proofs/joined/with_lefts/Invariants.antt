use Rattle.std.proofs.Common.{◌≡◌, ◌++◌, map}
use Rattle.plan_core.specs.Columns.{names_of}
use Rattle.plan_table.specs.Tables.{types_of}
use Rattle.plan_value.specs.Shown.{columns_shown, frame_of}
use Rattle.plan_join_eval.specs.Along.{left_column}
use Rattle.plan_join_eval.proofs.joined.with_lefts.Given as goal

-- the columns that are there, and then those that are left, are all
abbrev pub invariant-loop-name : goal.invariant-loop-name
invariant-loop-name l = record {
  shown : columns_shown l.columns ++ map (left_column l.places l.fills (frame_of l.left) (frame_of l.right) l.pairs) (names_of l.name-iterator) ≡ map (left_column l.places l.fills (frame_of l.left) (frame_of l.right) l.pairs) (names_of l.lefts);
  types : types_of l.columns ++ l.name-iterator ≡ l.lefts;
}
