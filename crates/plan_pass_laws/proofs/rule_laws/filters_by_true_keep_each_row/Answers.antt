use Rattle.plan_pass_laws.proofs.FilterRefines.{all_true}
use Rattle.plan_pass_laws.proofs.rule_laws.filters_by_true_keep_each_row.Goals as goal

pub returns : goal.returns
returns c = λ e g s has h. all_true e g s has h
