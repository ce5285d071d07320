use Rattle.std.proofs.Common.{◌∙◌, ap}
use Rattle.std.proofs.lemmas.Result.{IfOk-weaker}
use Rattle.plan_pruned.specs.Pruned.{asked_columns}
use Rattle.plan_prune_steps.proofs.cache.columns.Goals as goal

pub returns : goal.returns
returns c =
    IfOk-weaker c.asked_columns.result _ _
    (λ columns is ex. is ∙ ap (asked_columns c.args.asked.now) (c.columns.ensures ∙ c.in_ok-stored.ensures.stored ex))
    c.asked_columns.ensures
