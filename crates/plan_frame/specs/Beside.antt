-- Columns beside one another.
use Rattle.std.specs.Prelude.{Bool, true, not, ◌&&◌, List, [], ◌∷◌, ◌++◌, fold, if◌then◌else◌}
use Rattle.std.specs.List.{list_all}
use Rattle.plan_core.specs.declared.data_type.DataType.{DataType}
use Rattle.plan_core.specs.Columns.{Columns, names_of}
use Rattle.plan_core.specs.Names.{has}
use Rattle.plan_expr.specs.Leaves.{Name}

-- the columns of inputs, those of one after those of another
abbrev pub in_a_row : List Columns → Columns
in_a_row [] = []
in_a_row (s ∷ ss) = s ++ in_a_row ss

-- columns, and one more where none of them has its name
abbrev pub with_new : Columns → Name × DataType → Columns
with_new s c = if has (names_of s) c.0 then s else s ++ c ∷ []

-- inputs beside one another: their columns in a row, of each name the first
abbrev pub side_by_side : List Columns → Columns
side_by_side ss = fold with_new [] (in_a_row ss)

-- no column of some is called like one of others
abbrev pub share_no_name : (s t : Columns) → Bool
share_no_name s t = list_all (λ (a : Name). not (has (names_of t) a)) (names_of s)

-- no two of several have a column of one name
unfoldable pub are_apart : List Columns → Bool
are_apart [] = true
are_apart (s ∷ ss) = share_no_name s (in_a_row ss) && are_apart ss
