use Rattle.std.proofs.Common.{◌≡◌, take}
use Rattle.plan_core.specs.Columns.{with_types}
use Rattle.plan_pruned.specs.Pruned.{typed_names}
use Rattle.plan_cluster.specs.ExprNames.{expr_names}
use Rattle.plan_cluster.proofs.meeting.put_types.Given as goal

-- the types up to here
abbrev pub invariant-loop-expr : goal.invariant-loop-expr
invariant-loop-expr l = l.to ≡ with_types l.initial.to (typed_names l.from (take l.expr-index (expr_names l.exprs)))
