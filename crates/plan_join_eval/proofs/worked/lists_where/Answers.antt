use Rattle.plan_expr.specs.Exprs.{expr_at}
use Rattle.plan_join_eval.specs.Reads.{is_beside_true}
use Rattle.plan_join_eval.proofs.CompareLemmas.{lists-next}
use Rattle.plan_join_eval.proofs.worked.lists_where.Goals as goal

pub loop-row-preserved : goal.loop-row-preserved
loop-row-preserved c =
    lists-next (λ i. is_beside_true c.args.by_right (expr_at c.args.ex.now c.args.condition) c.args.reads.now i c.args.others) c.args.others c.loop-row.row c.loop-row.lists.items _ _
    c.loop-row.invariant c.in_ok-push.ensures.items c.in_ok-rows_where.ensures
