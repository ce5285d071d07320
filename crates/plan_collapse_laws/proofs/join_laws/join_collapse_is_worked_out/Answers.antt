use Rattle.std.proofs.Common.{refl}
use Rattle.plan_collapse_laws.proofs.join_laws.join_collapse_is_worked_out.Goals as goal

pub returns-clause-equality : goal.returns-clause-equality
returns-clause-equality c = refl

pub returns-clause-inequality : goal.returns-clause-inequality
returns-clause-inequality c = refl

pub returns-clause-condition : goal.returns-clause-condition
returns-clause-condition c = refl

pub returns-clause-ordered : goal.returns-clause-ordered
returns-clause-ordered c = refl

pub returns-clause-sum : goal.returns-clause-sum
returns-clause-sum c = refl

pub returns-clause-rest : goal.returns-clause-rest
returns-clause-rest c = refl

pub returns-clause-two : goal.returns-clause-two
returns-clause-two c = refl

pub returns-clause-again : goal.returns-clause-again
returns-clause-again c = refl
