use Rattle.plan_collapse_laws.proofs.Extended.{filtered-pairs}
use Rattle.plan_collapse_laws.proofs.join_laws.filtered_pairs_are_those_of_another_join.Goals as goal

pub returns : goal.returns
returns c = λ how other order own keys run rest h k a b same ps picked. filtered-pairs how other order own keys run rest h k a b same ps picked
