-- The names of the expressions of an addition over another that are found to stay, one after another.
use Rattle.std.specs.Prelude.{ℕ, zero, suc, Bool, not, ◌&&◌, List, [], Option, Some, None, option_and_then, slice_get}
use Rattle.std.specs.List.{filter as only_where}
use Rattle.plan_core.specs.Names.{has, with_names}
use Rattle.plan_expr.specs.Exprs.{Named}
use Rattle.plan_expr.specs.Leaves.{Name, leaves}
use Rattle.plan_frame.specs.ExprLists.{out_names, all_leaves}
use Rattle.plan_collapse_laws.specs.Meeting.{named_in}
use Rattle.plan_collapse_laws.specs.Staying.{reads_one}

-- whether a lower output of this name is remade and read
abbrev pub remade_and_read : (lower read : List Name) → Name → Bool
remade_and_read lower read a = has lower a && has read a

-- the names of those that read a lower output, and then of those that remake one that is read
abbrev pub found_first : List Named → List Name → List Name
found_first es lower = with_names (with_names [] (out_names (only_where (reads_one lower) es))) (only_where (remade_and_read lower (with_names [] (all_leaves es))) (out_names es))

-- whether an upper expression has the name and no lower one
abbrev pub is_awaited : (upper lower : List Name) → Name → Bool
is_awaited upper lower a = has upper a && not (has lower a)

-- the names of upper expressions that an expression reads, but for those of lower ones
abbrev pub awaited_by : (upper lower : List Name) → Option Named → List Name
awaited_by upper lower None = []
awaited_by upper lower (Some d) = only_where (is_awaited upper lower) (leaves d.expr)

-- the expression whose name stands in a place
abbrev pub found_at : List Named → List Name → ℕ → Option Named
found_at es found i = option_and_then (named_in es) (slice_get found i)

-- the names found, with those that the expression of the name in a place awaits
abbrev pub found_next : List Named → List Name → List Name → ℕ → List Name
found_next es lower found i = with_names found (awaited_by (out_names es) lower (found_at es found i))

-- the names found once so many places were looked at
abbrev pub found_after : List Named → List Name → List Name → ℕ → List Name
found_after es lower found zero = found
found_after es lower found (suc i) = found_next es lower (found_after es lower found i) i
