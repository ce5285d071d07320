use Rattle.plan_order_laws.proofs.KeptInOrder.{kept_in_order, kept_rows}
use Rattle.plan_order_laws.proofs.row_laws.kept_rows_are_kept_of_reordered_rows.Goals as goal

pub returns-clause-kept : goal.returns-clause-kept
returns-clause-kept c = λ same by o h ps p alike keep rows free k. kept_rows same by o h ps p alike keep rows free k

pub returns-clause-in_order : goal.returns-clause-in_order
returns-clause-in_order c = λ stable keep same o h rows k. kept_in_order stable keep same o h rows k
