use Rattle.plan_core.specs.Columns.{names_of}
use Rattle.plan_join.specs.Naming.{right_name, with_right}
use Rattle.plan_check_parts.proofs.FirstColumns.{FirstTo}
use Rattle.plan_check_parts.proofs.join_columns.with_first.Given as goal

-- what is there, of each name the first, and then what is left under its names, are the left columns with the right ones
abbrev pub invariant-loop-name : goal.invariant-loop-name
invariant-loop-name l = FirstTo (right_name l.suffix (names_of l.left)) l.columns l.differ l.name-iterator (with_right l.suffix l.left l.right)
