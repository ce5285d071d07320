use Rattle.std.proofs.Common.{◌≡◌, ◌∙◌, ◌-◌, ℕ, ap₂, arith, sym}
use Rattle.std.specs.List.{range_with_len}
use Rattle.plan_fit.proofs.FormedLemmas.{columns-have}
use Rattle.plan_frame.specs.Frames.{rows_at}
use Rattle.plan_value.specs.Shown.{frame_of, schema_of}
use Rattle.plan_eval.proofs.TurnLemmas.{all-rows}
use Rattle.plan_eval.proofs.slice.cut_table.Goals as goal

pub returns-then-end-table-clause-frame : goal.returns-then-end-table-clause-frame
returns-then-end-table-clause-frame c =
    let t = c.args.table in
    let first : 0 ≡ c.args.first = sym c.if-first-eq0.true in
    let count : t.height ≡ c.args.end - c.args.first = omega (arith, c.if-first-eq0.true, c.if-end-table.true) in
    sym (all-rows (frame_of t) (schema_of t) (columns-have t.height t.columns c.requires))
    ∙ ap₂ (λ (a n : ℕ). rows_at (range_with_len a n) (frame_of t)) first count
