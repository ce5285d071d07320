use Rattle.std.proofs.Common.{◌∙◌, ap}
use Rattle.plan_core.specs.Columns.{same_columns}
use Rattle.plan_rule.proofs.collapse.has_columns.Goals as goal

pub returns : goal.returns
returns c = λ ex p v. c.eq.ensures ∙ ap (same_columns c.args.columns.now) (c.columns.ensures ∙ c.in_ok-stored.ensures.valid ex p v)
