use Rattle.std.proofs.Common.{◌≡◌, ◌++◌, map}
use Rattle.plan_core.specs.declared.data_type.DataType.{DataType}
use Rattle.plan_core.specs.Columns.{names_of}
use Rattle.plan_expr.specs.Leaves.{Name}
use Rattle.plan_join.specs.Naming.{right_name, with_right}
use Rattle.plan_table.specs.Tables.{types_of}
use Rattle.plan_value.specs.Shown.{columns_shown, frame_of}
use Rattle.plan_join_eval.specs.Along.{right_column}
use Rattle.plan_join_eval.proofs.joined.with_rights.Given as goal

-- the columns that are there, and then those that are left, are all
abbrev pub invariant-loop-name : goal.invariant-loop-name
invariant-loop-name l = record {
  shown : columns_shown l.columns ++ map (right_column (right_name l.suffix (names_of l.lefts)) (frame_of l.right) l.pairs) (names_of l.name-iterator) ≡ columns_shown l.initial.columns ++ map (right_column (right_name l.suffix (names_of l.lefts)) (frame_of l.right) l.pairs) (names_of l.rights);
  types : types_of l.columns ++ map (λ (c : Name × DataType). (right_name l.suffix (names_of l.lefts) c.0, c.1)) l.name-iterator ≡ with_right l.suffix l.lefts l.rights;
}
