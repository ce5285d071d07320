use Rattle.std.proofs.Common.{refl}
use Rattle.plan_order_laws.proofs.demand_laws.groupings_worked_out.Goals as goal

pub returns-clause-summed : goal.returns-clause-summed
returns-clause-summed c = λ sources info o sorts schema groups. refl

pub returns-clause-added : goal.returns-clause-added
returns-clause-added c = λ sources info o sorts schema columns groups stacks. refl

pub returns-clause-first : goal.returns-clause-first
returns-clause-first c = λ sources info o sorts schema groups. refl

pub returns-clause-named : goal.returns-clause-named
returns-clause-named c = λ sources info o sorts schema groups. refl

pub returns-clause-keys : goal.returns-clause-keys
returns-clause-keys c = λ sources info o sorts schema groups. refl

pub returns-clause-distinct : goal.returns-clause-distinct
returns-clause-distinct c = λ sources info o sorts schema groups. refl

pub returns-clause-any : goal.returns-clause-any
returns-clause-any c = λ sources info o sorts schema groups. refl
