use Rattle.std.proofs.Common.{◌≡◌, ◌++◌, map}
use Rattle.plan_table.specs.Tables.{types_of}
use Rattle.plan_value.specs.Shown.{columns_shown, frame_of}
use Rattle.plan_eval.specs.Stacks.{lengthened}
use Rattle.plan_eval.proofs.union.all_lengthened.Given as goal

-- what is made, and then what is left with its values behind, are all columns so, and so are their types
abbrev pub invariant-loop-column : goal.invariant-loop-column
invariant-loop-column l =
    (columns_shown l.made ++ map (lengthened (frame_of l.table)) (columns_shown l.column-iterator) ≡ map (lengthened (frame_of l.table)) (columns_shown l.fn.columns))
    × (types_of l.made ++ types_of l.column-iterator ≡ types_of l.fn.columns)
