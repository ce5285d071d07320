use Rattle.std.proofs.Common.{◌≡◌, drop}
use Rattle.plan_expr.specs.Exprs.{all_named_at}
use Rattle.plan_pass_laws.specs.Answers.{are_own_columns}
use Rattle.plan_rule.proofs.collapse.are_own_columns.Given as goal

abbrev pub invariant-loop-expr : goal.invariant-loop-expr
invariant-loop-expr l = are_own_columns (all_named_at l.ex l.exprs) ≡ are_own_columns (all_named_at l.ex (drop l.expr-index l.exprs))
