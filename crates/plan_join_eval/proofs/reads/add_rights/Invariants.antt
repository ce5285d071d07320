use Rattle.std.proofs.Common.{◌≡◌, ◌++◌, List, map}
use Rattle.std.specs.List.{filter as only_where}
use Rattle.plan_core.specs.declared.data_type.DataType.{DataType}
use Rattle.plan_core.specs.Columns.{names_of}
use Rattle.plan_expr.specs.Leaves.{Name}
use Rattle.plan_join.specs.Naming.{right_name}
use Rattle.plan_join.specs.declared.pairs.RowPair.{RowPair}
use Rattle.plan_value.specs.Shown.{frame_of}
use Rattle.plan_join_eval.specs.Along.{right_column}
use Rattle.plan_join_eval.specs.Reads.{is_named, is_read, read_column, read_type}
use Rattle.plan_join_eval.proofs.reads.add_rights.Given as goal

-- what is read up to here, and what will be of the columns that are left, is all that is read
abbrev pub invariant-loop-own : goal.invariant-loop-own
invariant-loop-own l = record {
  columns : (ps : List RowPair) → map (read_column ps) l.reads ++ only_where (is_read l.names) (map (right_column (right_name l.suffix (names_of l.lefts)) (frame_of l.right) ps) (names_of l.own-iterator)) ≡ map (read_column ps) l.initial.reads ++ only_where (is_read l.names) (map (right_column (right_name l.suffix (names_of l.lefts)) (frame_of l.right) ps) (names_of l.rights));
  types : map read_type l.reads ++ only_where (is_named l.names) (map (λ (c : Name × DataType). (right_name l.suffix (names_of l.lefts) c.0, c.1)) l.own-iterator) ≡ map read_type l.initial.reads ++ only_where (is_named l.names) (map (λ (c : Name × DataType). (right_name l.suffix (names_of l.lefts) c.0, c.1)) l.rights);
}
