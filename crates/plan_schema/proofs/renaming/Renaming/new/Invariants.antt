use Rattle.std.proofs.Common.{◌≡◌, ◌≤◌, drop, length}
use Rattle.plan_expr.specs.Leaves.{Name}
use Rattle.plan_meaning.specs.Functions.{name_in, new_name}
use Rattle.plan_schema.proofs.RenameLemmas.{seen}
use Rattle.plan_schema.proofs.renaming.Renaming.new.Given as goal

-- from the place on that is reached, the names that are there are those of the lists
abbrev pub invariant-loop-left : goal.invariant-loop-left
invariant-loop-left l = (l.left ≤ length l.existing) × (l.left ≤ length l.new) × ((a : Name) → name_in (seen l.names.entries) a ≡ new_name (drop l.left l.existing) (drop l.left l.new) a)

abbrev pub decreases-loop-left : goal.decreases-loop-left
decreases-loop-left l = l.left
