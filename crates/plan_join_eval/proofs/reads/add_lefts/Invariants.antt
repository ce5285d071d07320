use Rattle.std.proofs.Common.{◌≡◌, ◌++◌, List, map}
use Rattle.std.specs.List.{filter as only_where}
use Rattle.plan_core.specs.Columns.{names_of}
use Rattle.plan_join.specs.declared.pairs.RowPair.{RowPair}
use Rattle.plan_value.specs.Shown.{frame_of}
use Rattle.plan_join_eval.specs.Reads.{is_named, is_read, left_along, read_column, read_type}
use Rattle.plan_join_eval.proofs.reads.add_lefts.Given as goal

-- what is read up to here, and what will be of the columns that are left, is all that is read
abbrev pub invariant-loop-name : goal.invariant-loop-name
invariant-loop-name l = record {
  columns : (ps : List RowPair) → map (read_column ps) l.reads ++ only_where (is_read l.names) (map (left_along (frame_of l.left) ps) (names_of l.name-iterator)) ≡ map (read_column ps) l.initial.reads ++ only_where (is_read l.names) (map (left_along (frame_of l.left) ps) (names_of l.lefts));
  types : map read_type l.reads ++ only_where (is_named l.names) l.name-iterator ≡ map read_type l.initial.reads ++ only_where (is_named l.names) l.lefts;
}
