use Rattle.std.proofs.Common.{◌≡◌, take, true}
use Rattle.plan_expr.specs.Exprs.{all_named_at}
use Rattle.plan_frame.specs.ExprLists.{all_scalar}
use Rattle.plan_frame.proofs.exprs.all_scalar.Given as goal

abbrev pub invariant-loop-expr : goal.invariant-loop-expr
invariant-loop-expr l = all_scalar (all_named_at l.ex (take l.expr-index l.exprs)) ≡ true
