use Rattle.std.proofs.Common.{◌≡◌, ◌≤◌, drop, length, map}
use Rattle.plan_core.specs.Columns.{names_of}
use Rattle.plan_expr.specs.Leaves.{Name}
use Rattle.plan_meaning.specs.Functions.{name_in, new_name, names_now}
use Rattle.plan_schema.proofs.RenameLemmas.{seen}
use Rattle.plan_schema.proofs.renaming.Renaming.back.Given as goal

-- from the place on that is reached, the names that are there are those of the columns
abbrev pub invariant-loop-left : goal.invariant-loop-left
invariant-loop-left l = (l.left ≤ length l.schema) × ((a : Name) → name_in (seen l.names.entries) a ≡ new_name (drop l.left (map (names_now l.self) (names_of l.schema))) (drop l.left (names_of l.schema)) a)

abbrev pub decreases-loop-left : goal.decreases-loop-left
decreases-loop-left l = l.left
