use Rattle.plan_pass_laws.proofs.CollapseRefines.{selected_cut}
use Rattle.plan_pass_laws.proofs.rule_laws.selections_of_own_columns_are_cuts.Goals as goal

pub returns : goal.returns
returns c = λ g s e es own once. selected_cut g s e es own once
