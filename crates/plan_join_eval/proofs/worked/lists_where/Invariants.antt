use Rattle.plan_expr.specs.Exprs.{expr_at}
use Rattle.plan_join_eval.specs.Compared.{AreLists}
use Rattle.plan_join_eval.specs.Reads.{is_beside_true}
use Rattle.plan_join_eval.proofs.worked.lists_where.Given as goal

-- the lists of the rows up to here
abbrev pub invariant-loop-row : goal.invariant-loop-row
invariant-loop-row l = AreLists (λ i. is_beside_true l.by_right (expr_at l.ex l.condition) l.reads i l.others) l.row l.others l.lists.items
