use Rattle.std.proofs.Common.{◌≡◌, take}
use Rattle.plan_cluster.specs.ExprNames.{expr_names}
use Rattle.plan_cluster.proofs.places.Places.of.Given as goal

-- the names up to here
abbrev pub invariant-loop-expr : goal.invariant-loop-expr
invariant-loop-expr l = l.places ≡ take l.expr-index (expr_names l.exprs)
