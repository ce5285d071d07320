use Rattle.plan_order_laws.proofs.GroupedRows.{first_rows}
use Rattle.plan_order_laws.proofs.row_expr_laws.first_rows_stand_for_groups.Goals as goal

pub returns : goal.returns
returns c = λ same o h f even rows k. first_rows same o h f even rows k
