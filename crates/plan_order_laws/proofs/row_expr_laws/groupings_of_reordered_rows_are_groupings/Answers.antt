use Rattle.plan_order_laws.proofs.GroupedRows.{group_rows}
use Rattle.plan_order_laws.proofs.row_expr_laws.groupings_of_reordered_rows_are_groupings.Goals as goal

pub returns : goal.returns
returns c = λ keys aggs stored options s good w sums g ps rows has p k. group_rows keys aggs stored options s good w sums g ps rows has p k
