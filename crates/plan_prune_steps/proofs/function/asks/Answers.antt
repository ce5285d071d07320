use Rattle.std.proofs.Common.{◌∙◌, arith}
use Rattle.std.proofs.lemmas.Result.{IfOk-weaker}
use Rattle.plan_prune_parts.specs.Said.{columns_at}
use Rattle.plan_prune_steps.proofs.AskedParts.{mapped-some}
use Rattle.plan_prune_steps.proofs.function.asks.Goals as goal

pub returns-clause-names : goal.returns-clause-names
returns-clause-names c = IfOk-weaker c.needed.result _ _ (λ names is. λ ex. is ex ∙ mapped-some c.args.asked.now c.args.function.now (columns_at c.args.lp.now ex c.args.input) (λ z. omega (arith, z, c.len.ensures.value, c.if-len-eq0.false))) c.needed.ensures.names
