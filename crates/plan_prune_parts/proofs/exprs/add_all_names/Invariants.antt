use Rattle.std.proofs.Common.{◌≡◌, take}
use Rattle.plan_core.specs.Names.{with_names}
use Rattle.plan_expr.specs.Exprs.{all_named_at}
use Rattle.plan_frame.specs.ExprLists.{all_leaves}
use Rattle.plan_prune_parts.proofs.exprs.add_all_names.Given as goal

abbrev pub invariant-loop-expr : goal.invariant-loop-expr
invariant-loop-expr l = l.names ≡ with_names l.initial.names (all_leaves (all_named_at l.ex (take l.expr-index l.exprs)))
