use Rattle.plan_order_laws.proofs.Cells.{numbers_rows}
use Rattle.plan_order_laws.proofs.row_laws.rows_are_given_one_by_one.Goals as goal

pub returns : goal.returns
returns c = λ at by h ps b same. numbers_rows at by h ps b same
