use Rattle.plan_order_laws.proofs.Cells.{level_frame, whole_rows}
use Rattle.plan_order_laws.proofs.Rows.{permuted_twice, rows_twice}
use Rattle.plan_order_laws.proofs.row_laws.rows_of_rows_are_rows.Goals as goal

pub returns-clause-twice : goal.returns-clause-twice
returns-clause-twice c = λ ps rows f b. rows_twice ps rows f b

pub returns-clause-order : goal.returns-clause-order
returns-clause-order c = λ h ps rows p q. permuted_twice h ps rows p q

pub returns-clause-whole : goal.returns-clause-whole
returns-clause-whole c = λ g s has. whole_rows g s has

pub returns-clause-level : goal.returns-clause-level
returns-clause-level c = λ g s has. level_frame g s has
