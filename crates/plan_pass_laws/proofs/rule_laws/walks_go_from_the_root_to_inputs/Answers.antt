use Rattle.plan_pass_laws.proofs.Reworked.{walked_more, walked_node, walked_none}
use Rattle.plan_pass_laws.proofs.rule_laws.walks_go_from_the_root_to_inputs.Goals as goal

pub returns-clause-root : goal.returns-clause-root
returns-clause-root c = λ kinds op p us ts top below v first quiet w. walked_node kinds op p us ts top below v first quiet w

pub returns-clause-inputs : goal.returns-clause-inputs
returns-clause-inputs c = λ kinds q p qs ps d e h k. walked_more kinds q p qs ps d e h k

pub returns-clause-none : goal.returns-clause-none
returns-clause-none c = λ kinds. walked_none kinds
