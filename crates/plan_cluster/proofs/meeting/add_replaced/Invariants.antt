use Rattle.std.proofs.Common.{◌≡◌, ◌++◌, take}
use Rattle.plan_cluster.specs.ExprNames.{exprs_replaced}
use Rattle.plan_cluster.proofs.meeting.add_replaced.Given as goal

-- the expressions up to here
abbrev pub invariant-loop-expr : goal.invariant-loop-expr
invariant-loop-expr l = l.exprs ≡ l.initial.exprs ++ exprs_replaced l.takes (take l.expr-index l.lower)
