use Rattle.std.proofs.Common.{◌≤◌, reverse, length, take}
use Rattle.plan_dsl.specs.Appends.{Appends}
use Rattle.plan_dsl.specs.Parts.{children}
use Rattle.plan_dsl.proofs.expr.Expr.nodes.Given as goal

abbrev pub invariant-loop-left : goal.invariant-loop-left
invariant-loop-left l = (l.left ≤ length (children l.self)) × Appends (λ r. r.now) l.fn.container l.container (reverse (take l.left (children l.self))) (reverse (children l.self))

abbrev pub decreases-loop-left : goal.decreases-loop-left
decreases-loop-left l = l.left
