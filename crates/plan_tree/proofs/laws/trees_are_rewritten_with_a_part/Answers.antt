use Rattle.plan_tree.proofs.Replaced.{replaced_within}
use Rattle.plan_tree.proofs.laws.trees_are_rewritten_with_a_part.Goals as goal

pub returns : goal.returns
returns g c = λ S old new ns f m k h s r z x. replaced_within S old new ns f m k h s r z x
