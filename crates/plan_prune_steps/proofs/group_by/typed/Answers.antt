use Rattle.std.proofs.Common.{◌∙◌, ap}
use Rattle.std.proofs.lemmas.Result.{IfOk-weaker}
use Rattle.plan_core.specs.Columns.{Columns}
use Rattle.plan_prune_parts.specs.Kept.{names_at, with_typed}
use Rattle.plan_prune_steps.proofs.GroupParts.{grouped-typed}
use Rattle.plan_prune_steps.proofs.group_by.typed.Goals as goal

pub returns : goal.returns
returns c =
    IfOk-weaker c.with_typed-2.result _ _
    (λ columns is.
    is
    ∙ ap (λ (b : Columns). with_typed b (names_at c.args.aggs.now) c.args.schema.now) (c.in_ok-of_keys.ensures ∙ ap (λ (b : Columns). with_typed b (names_at c.args.keys.now) c.args.schema.now) c.new.ensures)
    ∙ grouped-typed c.args.keys.now c.args.aggs.now c.args.schema.now)
    c.with_typed-2.ensures
