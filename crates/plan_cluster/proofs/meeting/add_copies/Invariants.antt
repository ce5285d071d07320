use Rattle.std.proofs.Common.{◌≡◌, ◌++◌, take}
use Rattle.plan_cluster.proofs.meeting.add_copies.Given as goal

-- the expressions up to here
abbrev pub invariant-loop-expr : goal.invariant-loop-expr
invariant-loop-expr l = l.exprs ≡ l.initial.exprs ++ take l.expr-index l.moves
