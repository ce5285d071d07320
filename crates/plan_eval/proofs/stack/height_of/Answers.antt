use Rattle.std.proofs.Common.{◌≡◌, ◌∙◌, ◌+◌, ℕ, ap, sym, rules}
use Rattle.plan_eval.proofs.StackLemmas.{height-next}
use Rattle.plan_eval.proofs.stack.height_of.Goals as goal

pub loop-table-preserved : goal.loop-table-preserved
loop-table-preserved c =
    let sum : c.in_ok-height.height ≡ c.loop-table.height + c.table-item.result.now.height = search rules in
    sum ∙ ap (λ (n : ℕ). n + c.table-item.result.now.height) c.loop-table.invariant ∙ sym (height-next c.args.tables.now c.loop-table.table-index c.table-item.result c.loop-table-test.true c.table-item.is)
