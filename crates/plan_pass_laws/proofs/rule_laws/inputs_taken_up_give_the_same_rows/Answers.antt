use Rattle.plan_pass_laws.proofs.FlattenRefines.{turned}
use Rattle.plan_pass_laws.proofs.rule_laws.inputs_taken_up_give_the_same_rows.Goals as goal

pub returns : goal.returns
returns c = λ d ts v k fs m. turned d ts v k fs m
