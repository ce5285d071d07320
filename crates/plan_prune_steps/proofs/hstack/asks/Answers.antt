use Rattle.std.proofs.Common.{◌∙◌, arith}
use Rattle.std.proofs.lemmas.Result.{IfOk-weaker}
use Rattle.plan_prune_parts.specs.Said.{columns_at}
use Rattle.plan_prune_steps.proofs.AskedParts.{stacked-some}
use Rattle.plan_prune_steps.proofs.hstack.asks.Goals as goal

pub returns : goal.returns
returns c =
    IfOk-weaker c.held_and_read-names.result _ _
    (λ names is. is ∙ stacked-some c.args.ex.now c.args.asked c.args.exprs.now (columns_at c.args.lp.now c.args.ex.now c.args.input) (λ z. omega (arith, z, c.len.ensures.value, c.if-len-eq0.false)) (λ z. omega (arith, z, c.if-exprs-eq0.false)))
    c.held_and_read-names.ensures
