use Rattle.plan_order_laws.proofs.PickedRows.{alike_rows, cmp_rows, sort_rows}
use Rattle.plan_order_laws.proofs.row_laws.picked_rows_stand_as_they_did.Goals as goal

pub returns-clause-compared : goal.returns-clause-compared
returns-clause-compared c = λ ps cs ds ns i j lt k. cmp_rows ps cs ds ns i j lt k

pub returns-clause-alike : goal.returns-clause-alike
returns-clause-alike c = λ ps cs i j lt k. alike_rows ps cs i j lt k

pub returns-clause-sorted : goal.returns-clause-sorted
returns-clause-sorted c = λ h ps rows by cmp p same k. sort_rows h ps rows by cmp p same k
