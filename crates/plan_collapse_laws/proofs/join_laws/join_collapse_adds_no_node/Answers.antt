use Rattle.plan_collapse_laws.proofs.CollapsedNodes.{collapsed_few}
use Rattle.plan_collapse_laws.proofs.join_laws.join_collapse_adds_no_node.Goals as goal

pub returns : goal.returns
returns c = λ p v. collapsed_few p v
