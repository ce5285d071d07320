use Rattle.plan_collapse_laws.proofs.Predicates.{named_well, typed_named}
use Rattle.plan_collapse_laws.proofs.join_laws.typed_expressions_name_themselves.Goals as goal

pub returns-clause-named : goal.returns-clause-named
returns-clause-named c = λ s e h. typed_named s e h

pub returns-clause-put_out : goal.returns-clause-put_out
returns-clause-put_out c = λ s e h. named_well s e h
