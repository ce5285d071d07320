use Rattle.plan_order_laws.proofs.GroupedRows.{over_rows}
use Rattle.plan_order_laws.proofs.row_expr_laws.summaries_ignore_the_order.Goals as goal

pub returns : goal.returns
returns c = λ g s has ps p keys w e sums typed. over_rows g s has ps p keys w e sums typed
