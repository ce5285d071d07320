use Rattle.plan_pass_laws.proofs.CollapseRefines.{cut_twice}
use Rattle.plan_pass_laws.proofs.rule_laws.frames_are_cut_once.Goals as goal

pub returns : goal.returns
returns c = λ cs ds g known. cut_twice cs ds g known
