use Rattle.std.proofs.Common.{◌∙◌, ap, fold}
use Rattle.std.proofs.lemmas.Result.{on_ok_weaker}
use Rattle.plan_core.specs.Columns.{Columns}
use Rattle.plan_frame.specs.Beside.{with_new}
use Rattle.plan_prune_steps.proofs.hconcat.add_stored.Goals as goal

pub returns : goal.returns
returns c = on_ok_weaker c.add_new.result (λ is. λ ex. is ∙ ap (λ (s : Columns). fold with_new c.args.columns.now s) (c.columns.ensures ∙ c.in_ok-stored.ensures.stored ex)) c.add_new.ensures
