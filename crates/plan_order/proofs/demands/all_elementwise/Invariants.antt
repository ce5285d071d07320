use Rattle.std.proofs.Common.{◌≡◌, take, true}
use Rattle.plan_expr.specs.Exprs.{all_named_at}
use Rattle.plan_order_laws.specs.Elementwise.{all_elementwise}
use Rattle.plan_order.proofs.demands.all_elementwise.Given as goal

abbrev pub invariant-loop-expr : goal.invariant-loop-expr
invariant-loop-expr l = all_elementwise (all_named_at l.ex (take l.expr-index l.exprs)) ≡ true
