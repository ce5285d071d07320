use Rattle.std.proofs.Common.{◌∙◌, ◌++◌, ap, arith, sym, Bool, []}
use Rattle.std.proofs.lemmas.Result.{IfOk-weaker}
use Rattle.plan_prune_parts.specs.Kept.{names_at, stored_after}
use Rattle.plan_prune_steps.proofs.GroupParts.{some_asked}
use Rattle.plan_prune_steps.proofs.group_by.columns.Goals as goal

pub returns : goal.returns
returns c =
    IfOk-weaker c.typed-columns.result _ _
    (λ columns is. is ∙ ap (λ (b : Bool). stored_after b [] (names_at (c.args.keys.now ++ c.args.aggs.now)) c.args.schema) (sym (some_asked c.args.asked.now (λ z. omega (arith, z, c.len.ensures.value, c.if-len-eq0.false)))))
    c.typed-columns.ensures
