use Rattle.std.proofs.Common.{◌≡◌, ◌∙◌, ◌+◌, ℕ, ap₂, sym, rules}
use Rattle.plan_file_tables.proofs.PartLemmas.{rows-next}
use Rattle.plan_file_tables.proofs.parts.all_rows.Goals as goal

pub loop-part-preserved : goal.loop-part-preserved
loop-part-preserved c =
    let sum : c.in_ok-rows.rows ≡ c.loop-part.rows + c.height.result = search rules in
    sum ∙ ap₂ (λ (n m : ℕ). n + m) c.loop-part.invariant c.height.ensures ∙ sym (rows-next c.args.parts.now c.loop-part.part-index c.part-item.result c.loop-part-test.true c.part-item.is)
