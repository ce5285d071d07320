use Rattle.plan_core.specs.Columns.{names_of}
use Rattle.plan_join.specs.Naming.{right_name, with_right}
use Rattle.plan_join.proofs.ColumnLemmas.{Named}
use Rattle.plan_join.proofs.schema.with_right.Given as goal

-- what is there, and then what is left under its names, are the left columns with the right ones
abbrev pub invariant-loop-name : goal.invariant-loop-name
invariant-loop-name l = Named (right_name l.suffix (names_of l.left)) l.made l.name-iterator (with_right l.suffix l.left l.right)
