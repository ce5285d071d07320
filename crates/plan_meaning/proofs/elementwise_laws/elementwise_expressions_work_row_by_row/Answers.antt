use Rattle.plan_meaning.proofs.RowWise.{elementwise_rows}
use Rattle.std.proofs.Common.{[]}
use Rattle.plan_meaning.proofs.elementwise_laws.elementwise_expressions_work_row_by_row.Goals as goal

pub returns-clause-wide : goal.returns-clause-wide
returns-clause-wide c = λ f e even w. (elementwise_rows f even [] tt e w).wide

pub returns-clause-rows : goal.returns-clause-rows
returns-clause-rows c = λ f rows e even below w. (elementwise_rows f even rows below e w).rows_of
