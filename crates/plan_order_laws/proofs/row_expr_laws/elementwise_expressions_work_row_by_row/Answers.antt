use Rattle.plan_order_laws.proofs.RowCells.{val_rows}
use Rattle.plan_order_laws.proofs.row_expr_laws.elementwise_expressions_work_row_by_row.Goals as goal

pub returns : goal.returns
returns c = λ f ps b level e w. val_rows f ps b level e w
