use Rattle.plan_order_laws.proofs.MadeRows.{added_rows, alone_rows, keys_rows, scalar_rows}
use Rattle.plan_order_laws.proofs.row_expr_laws.elementwise_columns_are_made_row_by_row.Goals as goal

pub returns-clause-added : goal.returns-clause-added
returns-clause-added c = λ g ps b level es w. added_rows g ps b level es w

pub returns-clause-alone : goal.returns-clause-alone
returns-clause-alone c = λ g ps b level es w. alone_rows g ps b level es w

pub returns-clause-scalar : goal.returns-clause-scalar
returns-clause-scalar c = λ g ps b level h es s w. scalar_rows g ps b level h es s w

pub returns-clause-keys : goal.returns-clause-keys
returns-clause-keys c = λ g ps b level keys w. keys_rows g ps b level keys w
