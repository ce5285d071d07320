-- What was found so far, with the names that are left, tells what all names do.
use Rattle.plan_expr.specs.Exprs.{expr_at}
use Rattle.plan_expr.specs.Leaves.{leaves}
use Rattle.plan_prune_parts.specs.Origins.{origin_in}
use Rattle.plan_collapse.proofs.SideFolds.{Folding}
use Rattle.plan_collapse.proofs.keys.side_of.Given as goal

abbrev pub invariant-loop-name : goal.invariant-loop-name
invariant-loop-name l =
    (goal.iterator-loop-name).can_next l.name-iterator
    × (goal.iterator-loop-name).is_finite l.name-iterator
    × Folding (origin_in l.origins) (leaves (expr_at l.ex l.fn.node)) l.found l.name-iterator
