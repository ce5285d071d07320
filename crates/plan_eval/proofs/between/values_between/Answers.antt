use Rattle.std.proofs.Common.{◌≡◌, ◌∙◌, ◌++◌, ◌∷◌, ◌-◌, ◌<◌, ◌≤◌, ◌⊎◌, ⊎_elim, [], List, ℕ, ap, ap₂, sym, arith}
use Rattle.std.specs.List.{range_with_len}
use Rattle.std.proofs.lemmas.Bool.{cases_lt}
use Rattle.std.proofs.lemmas.List.{map-append}
use Rattle.plan_frame.specs.Frames.{picked, row}
use Rattle.plan_frame.specs.Values.{Value}
use Rattle.plan_value.specs.Shown.{values_of}
use Rattle.plan_value.proofs.PlaceLemmas.{range-next}
use Rattle.plan_value.proofs.ShownLemmas.{values-push}
use Rattle.plan_eval.proofs.between.values_between.Goals as goal

pub loop-row-preserved : goal.loop-row-preserved
loop-row-preserved c =
    let vs = values_of c.args.values.now in
    let first = c.args.first in
    let i = c.loop-row.row in (
      ap values_of c.in_ok-push.ensures.pushed
          ∙ values-push c.loop-row.own c.in_ok-value_in.field-0
          ∙ ap₂ (λ (l : List Value) (v : Value). l ++ v ∷ []) c.loop-row.invariant.0 c.in_ok-value_in.ensures
          ∙ sym (ap (λ (rows : List ℕ). picked rows vs) (range-next first i c.loop-row.invariant.1) ∙ map-append (row vs) (range_with_len first _) (i ∷ [])),
      omega (arith, c.loop-row.invariant.1),
      λ past. absurd (omega (arith, past, c.loop-row.invariant.1, c.loop-row-test.true)),
    )

pub returns : goal.returns
returns c =
    let first = c.args.first in
    let end = c.args.end in
    let row = c.loop-row.row in
    let inv = c.loop-row.invariant in
    let same : (end < first) ⊎ (first ≤ end) → row - first ≡ end - first = λ (s : (end < first) ⊎ (first ≤ end)).
    ⊎_elim (λ past. let e = inv.2 past in omega (arith, past, e)) (λ le. let e = c.loop-row.auto.row-end le in omega (arith, e, c.loop-row-test.false)) s
    in
    inv.0 ∙ ap (λ (n : ℕ). picked (range_with_len first n) (values_of c.args.values.now)) (same (cases_lt end first))
