use Rattle.std.proofs.Common.{◌∙◌, ap}
use Rattle.plan_pruned.specs.Pruned.{asked_columns}
use Rattle.plan_prune_parts.proofs.cover.asked_at.Goals as goal

pub returns : goal.returns
returns c = λ ex. c.in_ok-asked_columns.ensures ∙ ap (asked_columns c.args.asked.now) (c.columns.ensures ∙ c.in_ok-stored.ensures.stored ex)
