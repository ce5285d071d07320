use Rattle.std.proofs.Common.{◌∙◌, ap}
use Rattle.std.proofs.lemmas.Result.{IfOk-weaker}
use Rattle.plan_core.specs.Columns.{Columns}
use Rattle.plan_prune_parts.specs.Kept.{names_at, with_typed}
use Rattle.plan_prune_steps.proofs.hstack.columns.Goals as goal

pub returns : goal.returns
returns c =
    IfOk-weaker c.with_typed.result _ _
    (λ columns is ex. is ∙ ap (λ (t : Columns). with_typed t (names_at c.args.exprs.now) c.args.schema.now) (c.in_ok-base.ensures ∙ c.in_ok-stored_schema.ensures.stored ex))
    c.with_typed.ensures
