use Rattle.plan_pruned.proofs.JoinWork.{join_scans, join_nodes, join_made}
use Rattle.plan_pruned.proofs.laws.pruned_joins_do_no_more.Goals as goal

pub returns-clause-scans : goal.returns-clause-scans
returns-clause-scans c = λ asked left_on right_on stored told s t inputs. join_scans left_on right_on stored told s t inputs asked

pub returns-clause-nodes : goal.returns-clause-nodes
returns-clause-nodes c = λ asked left_on right_on stored told s t inputs. join_nodes left_on right_on stored told s t inputs asked

pub returns-clause-made : goal.returns-clause-made
returns-clause-made c = λ asked left_on right_on stored told s t inputs. join_made left_on right_on stored told s t inputs asked
