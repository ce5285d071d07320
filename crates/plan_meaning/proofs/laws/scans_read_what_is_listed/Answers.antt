use Rattle.plan_meaning.proofs.ReadNames.{listed_names, node_names}
use Rattle.plan_meaning.proofs.laws.scans_read_what_is_listed.Goals as goal

pub returns-clause-node : goal.returns-clause-node
returns-clause-node c = λ ex node a. node_names ex node a

pub returns-clause-plan : goal.returns-clause-plan
returns-clause-plan c = λ lp ex root copy h. listed_names lp ex root copy h
