use Rattle.std.proofs.Common.{◌∙◌, ap}
use Rattle.plan_meaning.specs.Asked.{function_names}
use Rattle.plan_prune_names.proofs.renaming.needed_at.Goals as goal

pub returns : goal.returns
returns c = λ ex. c.in_ok-needed_names.ensures ∙ ap (function_names c.args.function.now c.args.asked.now) (c.columns.ensures ∙ c.in_ok-stored.ensures.stored ex)
