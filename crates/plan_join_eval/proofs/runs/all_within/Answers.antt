use Rattle.std.proofs.Common.{◌≡◌, ◌∙◌, ⊎_elim, ℕ, true, ap, sym, arith}
use Rattle.std.proofs.lemmas.Bool.{cases_lt}
use Rattle.plan_frame.specs.Meaning.{value_at}
use Rattle.plan_value.specs.Cells.{cell_of}
use Rattle.plan_value.specs.Shown.{value_of}
use Rattle.plan_join_eval.specs.Runs.{is_within}
use Rattle.plan_join_eval.proofs.runs.all_within.Goals as goal

pub loop-row-preserved : goal.loop-row-preserved
loop-row-preserved c = λ i from below.
    let row = c.loop-row.row in
    let b = value_of c.args.bound.now in
    let cell = cell_of c.args.key.now in
    let here : is_within c.args.up b (value_at cell row) ≡ true =
    ap (is_within c.args.up b) (sym c.value_of_key.ensures) ∙ sym c.lies_within.ensures ∙ c.if-not-lies_within.false
    in
    ⊎_elim (λ lt. c.loop-row.invariant i from lt) (λ ge. let q : i ≡ row = omega (arith, below, ge) in ap (λ (k : ℕ). is_within c.args.up b (value_at cell k)) q ∙ here) (cases_lt i row)
