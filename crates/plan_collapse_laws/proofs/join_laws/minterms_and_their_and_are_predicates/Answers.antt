use Rattle.plan_collapse_laws.proofs.Predicates.{and_all_good, minterms_good}
use Rattle.plan_collapse_laws.proofs.join_laws.minterms_and_their_and_are_predicates.Goals as goal

pub returns-clause-minterms : goal.returns-clause-minterms
returns-clause-minterms c = λ s e p. minterms_good s e p

pub returns-clause-joined : goal.returns-clause-joined
returns-clause-joined c = λ s e es p ps. and_all_good s e es p ps
