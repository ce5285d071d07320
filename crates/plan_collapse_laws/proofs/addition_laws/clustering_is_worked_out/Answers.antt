use Rattle.std.proofs.Common.{refl}
use Rattle.plan_collapse_laws.proofs.addition_laws.clustering_is_worked_out.Goals as goal

pub returns-clause-behind : goal.returns-clause-behind
returns-clause-behind c = refl

pub returns-clause-reading : goal.returns-clause-reading
returns-clause-reading c = refl

pub returns-clause-swapped : goal.returns-clause-swapped
returns-clause-swapped c = refl

pub returns-clause-placed : goal.returns-clause-placed
returns-clause-placed c = refl

pub returns-clause-in_order : goal.returns-clause-in_order
returns-clause-in_order c = refl

pub returns-clause-options : goal.returns-clause-options
returns-clause-options c = refl

pub returns-clause-nothing : goal.returns-clause-nothing
returns-clause-nothing c = refl
