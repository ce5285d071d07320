use Rattle.plan_tree.proofs.Pairs.{rewrites_pair, stand_first}
use Rattle.plan_tree.proofs.laws.trees_are_rewritten_side_by_side.Goals as goal

pub returns-clause-first : goal.returns-clause-first
returns-clause-first g c = λ S a b f h apart first ns ms u s x. stand_first S a b b f h apart first ns ms u s x

pub returns-clause-both : goal.returns-clause-both
returns-clause-both g c = λ S a b d f h apart first ns ms v u x y. rewrites_pair S a b d f h apart first ns ms v u x y
