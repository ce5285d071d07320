use Rattle.std.proofs.Common.{refl}
use Rattle.plan_order_laws.proofs.demand_laws.unions_worked_out.Goals as goal

pub returns-clause-last : goal.returns-clause-last
returns-clause-last c = λ sources info o sorts schema groups unions. refl

pub returns-clause-root : goal.returns-clause-root
returns-clause-root c = λ sources info o unions. refl

pub returns-clause-scalar : goal.returns-clause-scalar
returns-clause-scalar c = λ sources info o sorts schema columns groups picks. refl
