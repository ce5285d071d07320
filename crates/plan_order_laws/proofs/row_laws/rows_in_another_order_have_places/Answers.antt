use Rattle.plan_order_laws.proofs.PickedRows.{each_place}
use Rattle.plan_order_laws.proofs.Rows.{in_places, placed, reordered_rows}
use Rattle.plan_order_laws.proofs.row_laws.rows_in_another_order_have_places.Goals as goal

pub returns-clause-itself : goal.returns-clause-itself
returns-clause-itself c = λ ps. in_places ps

pub returns-clause-placed : goal.returns-clause-placed
returns-clause-placed c = λ xs ys p. placed xs ys p

pub returns-clause-place : goal.returns-clause-place
returns-clause-place c = λ h ps p k lt. each_place h ps p k lt

pub returns-clause-reordered : goal.returns-clause-reordered
returns-clause-reordered c = λ g xs ys p. reordered_rows g xs ys p
