use Rattle.std.proofs.Common.{refl}
use Rattle.plan_order_laws.proofs.count_laws.counts_worked_out.Goals as goal

pub returns-clause-scan : goal.returns-clause-scan
returns-clause-scan c = λ info o schema options. refl

pub returns-clause-union : goal.returns-clause-union
returns-clause-union c = λ info o schema columns options unions. refl

pub returns-clause-formats : goal.returns-clause-formats
returns-clause-formats c = λ info o schema options unions. refl

pub returns-clause-projection : goal.returns-clause-projection
returns-clause-projection c = λ info o schema columns options. refl
