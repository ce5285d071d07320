use Rattle.std.proofs.Common.{◌≤◌, length, reverse}
use Rattle.plan_tree.specs.Read.{tree_at}
use Rattle.plan_expr.specs.Operands.{expr_shape}
use Rattle.plan_meaning.specs.Functions.{names_now}
use Rattle.plan_pruned.proofs.RenamedLemmas.{later, Copied}
use Rattle.plan_pruned.proofs.renamed.copy_listed.Given as goal

-- the trees that the walk meets from the place on that is reached are copied
abbrev pub invariant-loop-left : goal.invariant-loop-left
invariant-loop-left l = (l.left ≤ length l.listed) × Copied (names_now l.names) l.initial.ex l.ex (later (tree_at expr_shape l.initial.ex l.fn.node) l.left) (reverse l.copies)

abbrev pub decreases-loop-left : goal.decreases-loop-left
decreases-loop-left l = l.left
